-- Lines that begin a world, and where none goes on. Other crates may cite these lemmas.
use Rattle.std.proofs.Common.{◌≡◌, ◌≢◌, ℕ, ℤ, pos, List, [], ◌∷◌, ◌++◌, refl, sym, ap, subst, ◌∙◌, inl, inr, append_assoc, append-nil, ◌⊎◌}
use Rattle.std.specs.Prelude.{codes}
use Rattle.desk_base.specs.Moments.{IsMoment}
use Rattle.line_forms.specs.BadLines.{Begins}
use Rattle.line_forms.specs.LineStates.{LineState}
use Rattle.line_forms.specs.Names.{IsName}
use Rattle.line_forms.specs.Numbers.{IsOffset}
use Rattle.line_forms.specs.Readers.{NeverGoesOn, StopsAt}
use Rattle.line_forms.proofs.Passing.{cons_head, cons_tail}
use Rattle.bf_world.specs.Worlds.{WorldState}
use Rattle.world_text.specs.declared.draft.Draft.{Draft}
use Rattle.world_text.specs.Drafts.{just, world_of}
use Rattle.world_text.specs.Rows.{Adds, AddsAll}
use Rattle.world_text.specs.Texts.{Head, IsHead, bare, IsSystemLine, Describes, AreWorldLines}
use Rattle.world_text.specs.Readings.{world_line, name_line, offset_line, moment_line, end_line, IsBadRow}
use Rattle.world_text.proofs.OneRow.{end_adds_none}
use Rattle.world_text.proofs.RowLists.{next_row, not_ended}
use Rattle.world_text.proofs.HeadLemmas.{shape, whole, head_one, head_by, a_name, a_system, system_line, an_offset, a_moment}

abbrev head_with : List ℕ → List ℕ → List ℕ → ℤ → ℤ → Head
head_with name version system offset moment = record { name = name; version = version; system = system; offset = offset; moment = moment }

-- some head with this name
abbrev pub named : List ℕ → Head
named name = head_with name (48 ∷ []) (48 ∷ []) (pos 0) (pos 0)

pub named_is : (name : List ℕ) → IsName name → Describes (world_line ∷ name_line name ∷ system_line ∷ offset_line (pos 0) ∷ moment_line (pos 0) ∷ end_line ∷ []) (bare (named name))
named_is name h = whole _ (named name) (head_by (named name) system_line h a_system an_offset a_moment)

begins_none : Begins AreWorldLines []
begins_none = (world_line ∷ name_line (codes "a") ∷ system_line ∷ offset_line (pos 0) ∷ moment_line (pos 0) ∷ end_line ∷ [], (bare (named (codes "a")), named_is (codes "a") a_name))

begins_world : Begins AreWorldLines (world_line ∷ [])
begins_world = (name_line (codes "a") ∷ system_line ∷ offset_line (pos 0) ∷ moment_line (pos 0) ∷ end_line ∷ [], (bare (named (codes "a")), named_is (codes "a") a_name))

begins_name : (name : List ℕ) → IsName name → Begins AreWorldLines (world_line ∷ name_line name ∷ [])
begins_name name h = (system_line ∷ offset_line (pos 0) ∷ moment_line (pos 0) ∷ end_line ∷ [], (bare (named name), named_is name h))

begins_system : (name line version system : List ℕ) → IsName name → IsSystemLine line version system → Begins AreWorldLines (world_line ∷ name_line name ∷ line ∷ [])
begins_system name line version system h k =
    let head = head_with name version system (pos 0) (pos 0) in
    (offset_line (pos 0) ∷ moment_line (pos 0) ∷ end_line ∷ [], (bare head, whole _ head (head_by head line h k an_offset a_moment)))

begins_offset : (name line version system : List ℕ) (offset : ℤ) → IsName name → IsSystemLine line version system → IsOffset offset →
    Begins AreWorldLines (world_line ∷ name_line name ∷ line ∷ offset_line offset ∷ [])
begins_offset name line version system offset h k o =
    let head = head_with name version system offset (pos 0) in
    (moment_line (pos 0) ∷ end_line ∷ [], (bare head, whole _ head (head_by head line h k o a_moment)))

-- ---- where no head goes on
pub stops_none : (state : LineState) → ((more : List (List ℕ)) → state.lines ≡ world_line ∷ more → ⊥) → StopsAt AreWorldLines [] state
stops_none state none = record {
  begins = begins_none;
  unfinished = λ (w, d). let e = shape _ w d in cc;
  ahead = λ line more ahead (rest, (w, d)).
      let e : line ≡ world_line = cons_head line world_line rest _ (shape _ w d) in
      none more (ahead ∙ ap (λ l. l ∷ more) e);
}

pub stops_world : (state : LineState) → ((name : List ℕ) (more : List (List ℕ)) → IsName name → state.lines ≡ name_line name ∷ more → ⊥) → StopsAt AreWorldLines (world_line ∷ []) state
stops_world state none = record {
  begins = begins_world;
  unfinished = λ (w, d). let e = shape _ w d in cc;
  ahead = λ line more ahead (rest, (w, d)).
      let e : line ≡ d.head_is.name = cons_head line d.head_is.name rest _ (cons_tail world_line world_line (line ∷ rest) _ (shape _ w d)) in
      none d.head.name more d.head_is.name_is.0 (ahead ∙ ap (λ l. l ∷ more) (e ∙ d.head_is.name_is.1.1));
}

pub stops_name : (name : List ℕ) (state : LineState) → IsName name → ((line version system : List ℕ) (more : List (List ℕ)) → state.lines ≡ line ∷ more → IsSystemLine line version system → ⊥) →
    StopsAt AreWorldLines (world_line ∷ name_line name ∷ []) state
stops_name name state h none = record {
  begins = begins_name name h;
  unfinished = λ (w, d). let e = shape _ w d in cc;
  ahead = λ line more ahead (rest, (w, d)).
      let a = cons_tail world_line world_line (name_line name ∷ line ∷ rest) _ (shape _ w d) in
      let e : line ≡ d.head_is.system = cons_head line d.head_is.system rest _ (cons_tail (name_line name) d.head_is.name (line ∷ rest) _ a) in
      none d.head_is.system d.head.version d.head.system more (ahead ∙ ap (λ l. l ∷ more) e) d.head_is.system_is;
}

pub stops_system : (name two version system : List ℕ) (state : LineState) → IsName name → IsSystemLine two version system →
    ((offset : ℤ) (more : List (List ℕ)) → IsOffset offset → state.lines ≡ offset_line offset ∷ more → ⊥) → StopsAt AreWorldLines (world_line ∷ name_line name ∷ two ∷ []) state
stops_system name two version system state h k none = record {
  begins = begins_system name two version system h k;
  unfinished = λ (w, d). let e = shape _ w d in cc;
  ahead = λ line more ahead (rest, (w, d)).
      let a = cons_tail world_line world_line (name_line name ∷ two ∷ line ∷ rest) _ (shape _ w d) in
      let b = cons_tail (name_line name) d.head_is.name (two ∷ line ∷ rest) _ a in
      let e : line ≡ d.head_is.offset = cons_head line d.head_is.offset rest _ (cons_tail two d.head_is.system (line ∷ rest) _ b) in
      let o = d.head_is.offset_is in
      none d.head.offset more o.2.0 (ahead ∙ ap (λ l. l ∷ more) (e ∙ o.1.1 ∙ ap (λ (f : List ℕ). codes "offset" ++ 32 ∷ f) o.2.1));
}

pub stops_offset : (name two version system : List ℕ) (offset : ℤ) (state : LineState) → IsName name → IsSystemLine two version system → IsOffset offset →
    ((moment : ℤ) (more : List (List ℕ)) → IsMoment moment → state.lines ≡ moment_line moment ∷ more → ⊥) → StopsAt AreWorldLines (world_line ∷ name_line name ∷ two ∷ offset_line offset ∷ []) state
stops_offset name two version system offset state h k o none = record {
  begins = begins_offset name two version system offset h k o;
  unfinished = λ (w, d). let e = shape _ w d in cc;
  ahead = λ line more ahead (rest, (w, d)).
      let a = cons_tail world_line world_line (name_line name ∷ two ∷ offset_line offset ∷ line ∷ rest) _ (shape _ w d) in
      let b = cons_tail (name_line name) d.head_is.name (two ∷ offset_line offset ∷ line ∷ rest) _ a in
      let c = cons_tail two d.head_is.system (offset_line offset ∷ line ∷ rest) _ b in
      let e : line ≡ d.head_is.moment = cons_head line d.head_is.moment rest _ (cons_tail (offset_line offset) d.head_is.offset (line ∷ rest) _ c) in
      let m = d.head_is.moment_is in
      none d.head.moment more m.2.0 (ahead ∙ ap (λ l. l ∷ more) (e ∙ m.1.1 ∙ ap (λ (f : List ℕ). codes "moment" ++ 32 ∷ f) m.2.1));
}

-- ---- behind a head
-- a head, lines that each add something, and the last line
pub whole_rows : (first rows : List (List ℕ)) (head : Head) (last : Draft) → IsHead first head → AddsAll (just (bare head)) rows last →
    Describes ((first ++ rows) ++ end_line ∷ []) (world_of last)
whole_rows first rows head last h k = record {
  first = first;
  rows = rows;
  head = head;
  last = last;
  lines_are = refl;
  head_is = h;
  adds = k;
  world_is = refl;
}

begins_rows : (first rows : List (List ℕ)) (head : Head) (last : Draft) → IsHead first head → AddsAll (just (bare head)) rows last → Begins AreWorldLines (first ++ rows)
begins_rows first rows head last h k = (end_line ∷ [], (world_of last, whole_rows first rows head last h k))

-- what stands behind the lines that were added
behind : (first rows : List (List ℕ)) (line : List ℕ) (rest : List (List ℕ)) (head : Head) (mid : Draft) (w : WorldState) → IsHead first head → AddsAll (just (bare head)) rows mid →
    (d : Describes (((first ++ rows) ++ line ∷ []) ++ rest) w) → ((line ≡ end_line) × (rest ≡ []) × (mid ≡ d.last)) ⊎ ((next : Draft) × Adds mid line next)
behind first rows line rest head mid w h k d =
    let e : ((first ++ rows) ++ line ∷ []) ++ rest ≡ first ++ (rows ++ line ∷ rest) = append_assoc (first ++ rows) (line ∷ []) rest ∙ append_assoc first rows (line ∷ rest) in
    let same : Describes (first ++ (rows ++ line ∷ rest)) w =
    record { first = d.first; rows = d.rows; head = d.head; last = d.last; lines_are = sym e ∙ d.lines_are; head_is = d.head_is; adds = d.adds; world_is = d.world_is } in
    let o = head_one first (rows ++ line ∷ rest) head w h same in
    next_row rows d.rows line rest (just (bare head)) mid d.last k (subst (λ (x : Head). AddsAll (just (bare x)) d.rows d.last) o.0 d.adds) o.1

-- no world goes on with a line that isn't the last and adds nothing
wrong_row : (first rows : List (List ℕ)) (line : List ℕ) (head : Head) (mid : Draft) → IsHead first head → AddsAll (just (bare head)) rows mid → line ≢ end_line → ((next : Draft) → Adds mid line next → ⊥) →
    Begins AreWorldLines ((first ++ rows) ++ line ∷ []) → ⊥
wrong_row first rows line head mid h k other none (rest, (w, d)) =
    elim (behind first rows line rest head mid w h k d) [
      | inl ended ↦ other ended.0
      | inr next ↦ none next.0 next.1
    ]

-- without the last line nothing is a world
unfinished : (first rows : List (List ℕ)) (head : Head) (mid : Draft) → IsHead first head → AddsAll (just (bare head)) rows mid → AreWorldLines (first ++ rows) → ⊥
unfinished first rows head mid h k (w, d) = not_ended rows d.rows (just (bare head)) mid k (head_one first rows head w h d).1

pub stops_rows : (first rows : List (List ℕ)) (head : Head) (mid : Draft) (state : LineState) → IsHead first head → AddsAll (just (bare head)) rows mid → IsBadRow mid state → StopsAt AreWorldLines (first ++ rows) state
stops_rows first rows head mid state h k bad = record {
  begins = begins_rows first rows head mid h k;
  unfinished = unfinished first rows head mid h k;
  ahead = λ line more ahead. let b = bad line more ahead in wrong_row first rows line head mid h k b.0 b.1;
}

-- what stands behind the last line of a world
ends_with : (lines rest : List (List ℕ)) (w v : WorldState) (d : Describes lines w) → Describes (lines ++ rest) v → (rest ≡ []) × (v ≡ w)
ends_with lines rest w v d k =
    let e : lines ++ rest ≡ ((d.first ++ d.rows) ++ end_line ∷ []) ++ rest = ap (λ l. l ++ rest) d.lines_are in
    let same : Describes (((d.first ++ d.rows) ++ end_line ∷ []) ++ rest) v =
    record { first = k.first; rows = k.rows; head = k.head; last = k.last; lines_are = sym e ∙ k.lines_are; head_is = k.head_is; adds = k.adds; world_is = k.world_is } in
    elim (behind d.first d.rows end_line rest d.head d.last v d.head_is d.adds same) [
      | inl ended ↦ (ended.1, k.world_is ∙ sym (ap world_of ended.2) ∙ sym d.world_is)
      | inr next ↦ absurd (end_adds_none d.last next.0 next.1)
    ]

-- no world goes on behind it
pub never_goes_on : (lines : List (List ℕ)) (w : WorldState) → Describes lines w → NeverGoesOn AreWorldLines lines
never_goes_on lines w d line more (v, k) = let none : line ∷ more ≡ [] = (ends_with lines (line ∷ more) w v d k).0 in cc

-- lines describe one world at most
pub describes_one : (lines : List (List ℕ)) (w v : WorldState) → Describes lines w → Describes lines v → v ≡ w
describes_one lines w v d k =
    let P : List (List ℕ) → Type 0 = λ l. Describes l v in
    (ends_with lines [] w v d (subst P (sym (append-nil lines)) k)).1
