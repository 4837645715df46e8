-- Worlds of one name, by the first two lines of their texts.
use Rattle.std.proofs.Common.{◌≡◌, ℕ, true, false, List, [], ◌∷◌, ◌++◌, ◌-◌, refl, sym, ap, subst, ◌∙◌, pos, inl, inr, take, drop, Ok, Err}
use Rattle.std.specs.Prelude.{codes}
use Rattle.std.specs.declared.result.Result.{Result}
use Rattle.std.proofs.lemmas.List.{append_cancel_left, take-append-drop}
use Rattle.line_forms.specs.BadLines.{Begins, AnswersBadLine}
use Rattle.line_forms.specs.LineStates.{LineState, before_lines, lines_of}
use Rattle.line_forms.specs.Fields.{field_text}
use Rattle.line_forms.specs.Names.{IsName}
use Rattle.line_forms.proofs.BadLines.{answers_bad_line-wrong}
use Rattle.line_forms.proofs.Passing.{cons_head, cons_tail, stands_behind}
use Rattle.bf_world.specs.Worlds.{WorldState}
use Rattle.world_text.specs.declared.draft.Draft.{Draft}
use Rattle.world_text.specs.declared.draft.Pending.{Pending}
use Rattle.world_text.specs.declared.draft.Pending.TheVariants as pending
use Rattle.world_text.specs.declared.error.WorldError.{WorldError}
use Rattle.world_text.specs.declared.error.WorldError.TheVariants as error
use Rattle.world_text.specs.declared.kind.Kind.{Kind}
use Rattle.world_text.specs.declared.kind.Kind.TheVariants as kind
use Rattle.world_text.specs.Drafts.{just, world_of, with_pending}
use Rattle.world_text.specs.Rows.{Adds, AddsFields, AddsAll}
use Rattle.world_text.specs.Texts.{bare, Describes, AreWorldLines, AreNamedLines, ReadsWorld, ReadsNamedWorld}
use Rattle.world_text.specs.Readings.{world_line, name_line, offset_line, moment_line, end_line, HasOtherName}
use Rattle.world_text.proofs.HeadLemmas.{shape, system_line}
use Rattle.world_text.proofs.StopLemmas.{named, named_is}

-- ---- no line changes the name of a world
pending_name : (p : Pending) (w : WorldState) → (with_pending p w).name ≡ w.name
pending_name pending.Nothing w = refl
pending_name (pending.File path content modified) w = refl
pending_name (pending.Program line program) w = refl

world_name : (d : Draft) → d.world.name ≡ (world_of d).name
world_name d = sym (pending_name d.pending d.world)

fields_name : (k : Kind) (d new : Draft) (rest : List ℕ) → AddsFields k d rest new → (world_of new).name ≡ (world_of d).name
fields_name kind.Folder d new rest a = ap (λ (x : Draft). (world_of x).name) a.new_is
fields_name kind.File d new rest a = ap (λ (x : Draft). (world_of x).name) a.new_is
fields_name kind.Package d new rest a = ap (λ (x : Draft). (world_of x).name) a.new_is
fields_name kind.Process d new rest a = ap (λ (x : Draft). (world_of x).name) a.new_is
fields_name kind.Setting d new rest a = ap (λ (x : Draft). (world_of x).name) a.new_is
fields_name kind.Program d new rest a = ap (λ (x : Draft). (world_of x).name) a.new_is
fields_name kind.Gives d new rest a = ap (λ (x : Draft). (world_of x).name) a.new_is ∙ world_name d

line_name : (d new : Draft) (line : List ℕ) → Adds d line new → (world_of new).name ≡ (world_of d).name
line_name d new line (inl a) = ap (λ (x : Draft). (world_of x).name) a.new_is ∙ world_name d
line_name d new line (inr a) = fields_name a.kind d new a.rest a.adds

lines_name : (lines : List (List ℕ)) (d new : Draft) → AddsAll d lines new → (world_of new).name ≡ (world_of d).name
lines_name [] d new is = ap (λ (x : Draft). (world_of x).name) is
lines_name (line ∷ lines) d new (next, adds, more) = lines_name lines next new more ∙ line_name d next line adds

described_name : (lines : List (List ℕ)) (w : WorldState) (d : Describes lines w) → w.name ≡ d.head.name
described_name lines w d = ap (λ (v : WorldState). v.name) d.world_is ∙ lines_name d.rows (just (bare d.head)) d.last d.adds

-- the first two lines of a world
second : (lines : List (List ℕ)) (w : WorldState) → Describes lines w → (more : List (List ℕ)) × (lines ≡ world_line ∷ name_line w.name ∷ more) × IsName w.name
second lines w d =
    let same = described_name lines w d in
    let more = d.head_is.system ∷ d.head_is.offset ∷ d.head_is.moment ∷ (d.rows ++ end_line ∷ []) in
    let line : d.head_is.name ≡ name_line w.name = d.head_is.name_is.1.1 ∙ ap name_line (sym same) in
    let P : List ℕ → Type 0 = IsName in
    (more, shape lines w d ∙ ap (λ l. world_line ∷ l ∷ more) line, subst P (sym same) d.head_is.name_is.0)

-- some world has a name
begins_none : (name : List ℕ) → IsName name → Begins (AreNamedLines name) []
begins_none name is = (world_line ∷ name_line name ∷ system_line ∷ offset_line (pos 0) ∷ moment_line (pos 0) ∷ end_line ∷ [], (bare (named name), named_is name is, refl))

begins_world : (name : List ℕ) → IsName name → Begins (AreNamedLines name) (world_line ∷ [])
begins_world name is = (name_line name ∷ system_line ∷ offset_line (pos 0) ∷ moment_line (pos 0) ∷ end_line ∷ [], (bare (named name), named_is name is, refl))

-- where no other name stands, lines that begin a world begin one of the name
begins_named : (name : List ℕ) (front rest lines : List (List ℕ)) → IsName name → ((other : List ℕ) (more : List (List ℕ)) → IsName other → lines ≡ world_line ∷ name_line other ∷ more → other ≡ name) →
    lines ≡ front ++ rest → Begins AreWorldLines front → Begins (AreNamedLines name) front
begins_named name [] rest lines is none split begins = begins_none name is
begins_named name (x ∷ []) rest lines is none split (more, (w, d)) =
    let s = second (x ∷ more) w d in
    let e : world_line ≡ x = sym (cons_head x world_line more (name_line w.name ∷ s.0) s.1) in
    subst (λ l. Begins (AreNamedLines name) (l ∷ [])) e (begins_world name is)
begins_named name (x ∷ y ∷ ys) rest lines is none split (more, (w, d)) =
    let s = second (x ∷ y ∷ ys ++ more) w d in
    let a : x ≡ world_line = cons_head x world_line (y ∷ ys ++ more) (name_line w.name ∷ s.0) s.1 in
    let t = cons_tail x world_line (y ∷ ys ++ more) (name_line w.name ∷ s.0) s.1 in
    let b : y ≡ name_line w.name = cons_head y (name_line w.name) (ys ++ more) s.0 t in
    let e : lines ≡ world_line ∷ name_line w.name ∷ (ys ++ rest) = split ∙ ap (λ l. l ∷ y ∷ (ys ++ rest)) a ∙ ap (λ l. world_line ∷ l ∷ (ys ++ rest)) b in
    (more, (w, d, none w.name (ys ++ rest) s.2 e))

-- ---- what is read of a named world
bad_named : (name text : List ℕ) (n : ℕ) → IsName name → ((other : List ℕ) (more : List (List ℕ)) → IsName other → lines_of text ≡ world_line ∷ name_line other ∷ more → other ≡ name) →
    AnswersBadLine AreWorldLines text n → AnswersBadLine (AreNamedLines name) text n
bad_named name text n is none (k, first, answer) = (
  k,
  record {
    counted = first.counted;
    before = begins_named name (take (k - 1) (lines_of text)) (drop (k - 1) (lines_of text)) (lines_of text) is none (sym (take-append-drop (k - 1) (lines_of text))) first.before;
    wrong = elim first.wrong [
      | inl line ↦ inl (line.0, λ (more, (w, d, same)). line.1 (more, (w, d)))
      | inr line ↦ inr (line.0, λ (ended, (w, d, same)). line.1 (ended, (w, d)))
    ];
  },
  answer,
)

pub named_read : (name text : List ℕ) (old new : LineState) (answer : Result WorldState WorldError) → IsName name → old.lines ≡ lines_of text → HasOtherName name old new false → ReadsWorld text answer →
    ReadsNamedWorld name text answer
named_read name text old new (Ok w) is start none reads =
    let s = second (lines_of text) w reads.1 in
    (reads, none w.name s.0 s.2 (start ∙ s.1))
named_read name text old new (Err (error.BadLine n)) is start none reads =
    bad_named name text n is (λ other more other_is e. none other more other_is (start ∙ e)) reads
named_read name text old new (Err error.Memory) is start none reads = tt

pub other_named : (name text : List ℕ) (new : LineState) → IsName name → HasOtherName name (before_lines text) new true → AnswersBadLine (AreNamedLines name) text new.number
other_named name text new is (passes, (other, more, other_is, differs, ahead)) =
    answers_bad_line-wrong (AreNamedLines name) text (name_line other) (world_line ∷ []) more new (stands_behind text (world_line ∷ []) new passes) ahead (begins_world name is)
    (λ (rest, (w, d, same)).
    let s = second (world_line ∷ name_line other ∷ rest) w d in
    let t = cons_head (name_line other) (name_line w.name) rest s.0 (cons_tail world_line world_line (name_line other ∷ rest) (name_line w.name ∷ s.0) s.1) in
    differs (append_cancel_left (field_text (codes "name")) other w.name t ∙ same))
