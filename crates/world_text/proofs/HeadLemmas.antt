-- The lines of a head.
use Rattle.std.proofs.Common.{◌≡◌, ◌≢◌, ℕ, ℤ, pos, true, List, [], ◌∷◌, ◌++◌, refl, sym, ap, subst, ◌∙◌, arith, append-nil}
use Rattle.std.specs.Prelude.{codes, decimal}
use Rattle.std.specs.Fmt.{signed_decimal}
use Rattle.std.specs.Str.{IsUtf8}
use Rattle.std.specs.Str.Parse.{digits_value}
use Rattle.std.proofs.lemmas.Int.{ints}
use Rattle.std.proofs.lemmas.Fmt.{decimal_digit, decimal_is_IsNumeral, IsAscii-decimal}
use Rattle.std.proofs.lemmas.List.Elements.{All-nil, All-cons}
use Rattle.std.proofs.lemmas.Str.{IsUtf8-from_ascii}
use Rattle.desk_base.specs.Moments.{IsMoment}
use Rattle.line_forms.specs.Fields.{IsFirstField}
use Rattle.line_forms.specs.Names.{IsName, IsRest, is_name_byte}
use Rattle.line_forms.specs.Numbers.{IsOffset}
use Rattle.line_forms.specs.Versions.{IsVersion, IsVersionNumber}
use Rattle.line_forms.proofs.Cutting.{IsCut-one, lacks_by}
use Rattle.bf_world.specs.Worlds.{WorldState}
use Rattle.world_text.specs.Drafts.{just}
use Rattle.world_text.specs.Texts.{Head, IsHead, bare, IsNameLine, IsSystemLine, IsOffsetLine, IsMomentLine, Describes}
use Rattle.world_text.specs.Readings.{world_line, name_line, offset_line, moment_line, end_line}
use Rattle.world_text.proofs.FieldLemmas.{moment_one, offset_one}

pub is_name_line : (name : List ℕ) → IsName name → IsNameLine (name_line name) name
is_name_line name h = (h, (lacks_by 32 (codes "name") refl, refl))

pub is_offset_line : (offset : ℤ) → IsOffset offset → IsOffsetLine (offset_line offset) offset
is_offset_line offset h = (signed_decimal offset, (lacks_by 32 (codes "offset") refl, refl), (h, refl))

pub is_moment_line : (moment : ℤ) → IsMoment moment → IsMomentLine (moment_line moment) moment
is_moment_line moment h = (signed_decimal moment, (lacks_by 32 (codes "moment") refl, refl), (h, refl))

-- a head by its lines
pub head_by : (head : Head) (system : List ℕ) → IsName head.name → IsSystemLine system head.version head.system → IsOffset head.offset → IsMoment head.moment →
    IsHead (world_line ∷ name_line head.name ∷ system ∷ offset_line head.offset ∷ moment_line head.moment ∷ []) head
head_by head system name system_is offset moment = record {
  name = name_line head.name;
  system = system;
  offset = offset_line head.offset;
  moment = moment_line head.moment;
  lines_are = refl;
  name_is = is_name_line head.name name;
  system_is = system_is;
  offset_is = is_offset_line head.offset offset;
  moment_is = is_moment_line head.moment moment;
}

-- some texts of their forms
pub a_name : IsName (codes "a")
a_name = (omega arith, omega arith, All-cons (λ byte. is_name_byte byte ≡ true) 97 [] refl (All-nil (λ byte. is_name_byte byte ≡ true)))

version_number : IsVersionNumber (48 ∷ [])
version_number =
    let d = decimal_is_IsNumeral 0 (omega arith) in
    let P : List ℕ → Type 0 = λ ds. IsVersionNumber ds in
    subst P (decimal_digit 0 (omega arith)) (d.0, omega (arith, d.1))

a_version : IsVersion (48 ∷ [])
a_version = (digits_value 10 (48 ∷ []) ∷ [], ((48 ∷ []) ∷ [], omega arith, omega arith, All-cons IsVersionNumber (48 ∷ []) [] version_number (All-nil IsVersionNumber), refl, refl))

a_rest : IsRest (48 ∷ [])
a_rest =
    let P : List ℕ → Type 0 = λ ds. IsUtf8 ds in
    (omega arith, (subst P (decimal_digit 0 (omega arith)) (IsUtf8-from_ascii (decimal 0) (IsAscii-decimal 0 (omega arith))), All-cons (λ byte. byte ≢ 10) 48 [] (omega arith) (All-nil (λ byte. byte ≢ 10))))

abbrev pub system_line : List ℕ
system_line = codes "system 0 0"

pub a_system : IsSystemLine system_line (48 ∷ []) (48 ∷ [])
a_system = (codes "0 0", (lacks_by 32 (codes "system") refl, refl), (lacks_by 32 (48 ∷ []) refl, refl), a_version, a_rest)

pub an_offset : IsOffset (pos 0)
an_offset = (omega (arith, ints), omega (arith, ints))

pub a_moment : IsMoment (pos 0)
a_moment = (omega (arith, ints), omega (arith, ints))

-- the lines of a world, one by one
pub shape : (lines : List (List ℕ)) (w : WorldState) (d : Describes lines w) →
    lines ≡ world_line ∷ d.head_is.name ∷ d.head_is.system ∷ d.head_is.offset ∷ d.head_is.moment ∷ (d.rows ++ end_line ∷ [])
shape lines w d = d.lines_are ∙ ap (λ f. f ++ d.rows ++ end_line ∷ []) d.head_is.lines_are

-- a head and the last line
pub whole : (first : List (List ℕ)) (head : Head) → IsHead first head → Describes (first ++ end_line ∷ []) (bare head)
whole first head h = record {
  first = first;
  rows = [];
  head = head;
  last = just (bare head);
  lines_are = ap (λ (f : List (List ℕ)). f ++ end_line ∷ []) (sym (append-nil first));
  head_is = h;
  adds = refl;
  world_is = refl;
}

name_one : (line a b : List ℕ) → IsNameLine line a → IsNameLine line b → b ≡ a
name_one line a b h k = (IsCut-one 32 line (codes "name") a (codes "name") b h.1 k.1).1

system_one : (line v s x y : List ℕ) → IsSystemLine line v s → IsSystemLine line x y → (x ≡ v) × (y ≡ s)
system_one line v s x y h k =
    let one = IsCut-one 32 line (codes "system") h.0 (codes "system") k.0 h.1 k.1 in
    let P : List ℕ → Type 0 = λ r. IsFirstField r x y in
    let two = IsCut-one 32 h.0 v s x y h.2 (subst P one.1 k.2) in
    (two.0, two.1)

offset_line_one : (line : List ℕ) (a b : ℤ) → IsOffsetLine line a → IsOffsetLine line b → b ≡ a
offset_line_one line a b h k =
    let one = IsCut-one 32 line (codes "offset") h.0 (codes "offset") k.0 h.1 k.1 in
    let same : k.0 ≡ h.0 = one.1 in
    offset_one h.0 a b h.2 (k.2.0, sym same ∙ k.2.1)

moment_line_one : (line : List ℕ) (a b : ℤ) → IsMomentLine line a → IsMomentLine line b → b ≡ a
moment_line_one line a b h k =
    let one = IsCut-one 32 line (codes "moment") h.0 (codes "moment") k.0 h.1 k.1 in
    let same : k.0 ≡ h.0 = one.1 in
    moment_one h.0 a b h.2 (k.2.0, sym same ∙ k.2.1)

abbrev head_with : List ℕ → List ℕ → List ℕ → ℤ → ℤ → Head
head_with name version system offset moment = record { name = name; version = version; system = system; offset = offset; moment = moment }

-- the same lines are those of one head, and the same stands behind them
pub head_one : (first behind : List (List ℕ)) (head : Head) (w : WorldState) → IsHead first head → (d : Describes (first ++ behind) w) →
    (d.head ≡ head) × (behind ≡ d.rows ++ end_line ∷ [])
head_one first behind head w h d =
    let k = d.head_is in
    let e : world_line ∷ h.name ∷ h.system ∷ h.offset ∷ h.moment ∷ behind ≡ world_line ∷ k.name ∷ k.system ∷ k.offset ∷ k.moment ∷ (d.rows ++ end_line ∷ []) =
    sym (ap (λ f. f ++ behind) h.lines_are) ∙ shape (first ++ behind) w d in
    let name : k.name ≡ h.name = cc in
    let system : k.system ≡ h.system = cc in
    let offset : k.offset ≡ h.offset = cc in
    let moment : k.moment ≡ h.moment = cc in
    let rest : behind ≡ d.rows ++ end_line ∷ [] = cc in
    let n = name_one h.name head.name d.head.name h.name_is (subst (λ (l : List ℕ). IsNameLine l d.head.name) name k.name_is) in
    let s = system_one h.system head.version head.system d.head.version d.head.system h.system_is (subst (λ (l : List ℕ). IsSystemLine l d.head.version d.head.system) system k.system_is) in
    let o = offset_line_one h.offset head.offset d.head.offset h.offset_is (subst (λ (l : List ℕ). IsOffsetLine l d.head.offset) offset k.offset_is) in
    let m = moment_line_one h.moment head.moment d.head.moment h.moment_is (subst (λ (l : List ℕ). IsMomentLine l d.head.moment) moment k.moment_is) in (
      ap (λ (x : List ℕ). head_with x d.head.version d.head.system d.head.offset d.head.moment) n
          ∙ ap (λ (x : List ℕ). head_with head.name x d.head.system d.head.offset d.head.moment) s.0
          ∙ ap (λ (x : List ℕ). head_with head.name head.version x d.head.offset d.head.moment) s.1
          ∙ ap (λ (x : ℤ). head_with head.name head.version head.system x d.head.moment) o
          ∙ ap (λ (x : ℤ). head_with head.name head.version head.system head.offset x) m,
      rest,
    )

-- a head has one text
pub head_text_one : (lines other : List (List ℕ)) (head : Head) → IsHead lines head → IsHead other head → other ≡ lines
head_text_one lines other head h k =
    let name : k.name ≡ h.name = k.name_is.1.1 ∙ sym h.name_is.1.1 in
    let s = h.system_is in
    let t = k.system_is in
    let system : k.system ≡ h.system = t.1.1 ∙ ap (λ (r : List ℕ). codes "system" ++ 32 ∷ r) (t.2.1 ∙ sym s.2.1) ∙ sym s.1.1 in
    let o = h.offset_is in
    let p = k.offset_is in
    let offset : k.offset ≡ h.offset = p.1.1 ∙ ap (λ (f : List ℕ). codes "offset" ++ 32 ∷ f) (p.2.1 ∙ sym o.2.1) ∙ sym o.1.1 in
    let m = h.moment_is in
    let n = k.moment_is in
    let moment : k.moment ≡ h.moment = n.1.1 ∙ ap (λ (f : List ℕ). codes "moment" ++ 32 ∷ f) (n.2.1 ∙ sym m.2.1) ∙ sym m.1.1 in
    k.lines_are
    ∙ ap (λ (x : List ℕ). world_line ∷ x ∷ k.system ∷ k.offset ∷ k.moment ∷ []) name
    ∙ ap (λ (x : List ℕ). world_line ∷ h.name ∷ x ∷ k.offset ∷ k.moment ∷ []) system
    ∙ ap (λ (x : List ℕ). world_line ∷ h.name ∷ h.system ∷ x ∷ k.moment ∷ []) offset
    ∙ ap (λ (x : List ℕ). world_line ∷ h.name ∷ h.system ∷ h.offset ∷ x ∷ []) moment
    ∙ sym h.lines_are
