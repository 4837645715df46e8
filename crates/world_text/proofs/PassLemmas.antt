-- Going over the lines of a world, and what is read there.
use Rattle.std.proofs.Common.{ℕ, ℤ, false, ◌≡◌, ◌≢◌, List, [], ◌∷◌, ◌++◌, refl, sym, ap, subst, ◌∙◌, Ok, Err, ◌⊎◌, inl, inr}
use Rattle.std.specs.declared.result.Result.{Result}
use Rattle.desk_base.specs.Moments.{IsMoment}
use Rattle.line_forms.specs.LineStates.{LineState, before_lines, lines_of, unended_of}
use Rattle.line_forms.specs.Names.{IsName}
use Rattle.line_forms.specs.Numbers.{IsOffset}
use Rattle.line_forms.specs.Readers.{IsNotAhead, IsOver, IsStuck, Passes, TakesExactly}
use Rattle.line_forms.proofs.BadLines.{first_bad_line-none}
use Rattle.line_forms.proofs.Passing.{all_lines, cons_head, passes_none, passes_then, stands_behind, stays}
use Rattle.bf_world.specs.Worlds.{WorldState, bare as nothing_on}
use Rattle.world_text.specs.declared.draft.Draft.{Draft}
use Rattle.world_text.specs.declared.draft.Pending.TheVariants.{Nothing}
use Rattle.world_text.specs.declared.error.WorldError.{WorldError}
use Rattle.world_text.specs.declared.error.WorldError.TheVariants as error
use Rattle.world_text.specs.declared.fault.Fault.{Fault}
use Rattle.world_text.specs.declared.fault.Fault.TheVariants.{Bad, Memory}
use Rattle.world_text.specs.Drafts.{just}
use Rattle.world_text.specs.Rows.{Adds}
use Rattle.world_text.specs.Texts.{Head, IsHead, bare, IsSystemLine, Describes, AreWorldLines, ReadsWorld}
use Rattle.world_text.specs.Readings.{world_line, name_line, offset_line, moment_line, end_line, HasRows, IsBadRow, Takes, ReadsRows, ReadsBody, ReadsLines}
use Rattle.world_text.proofs.HeadLemmas.{head_by}
use Rattle.world_text.proofs.RowLists.{all_snoc}
use Rattle.world_text.proofs.StopLemmas.{stops_none, stops_world, stops_name, stops_system, stops_offset, stops_rows, whole_rows, describes_one}

-- ---- the head, line by line
pub no_world : (old new : LineState) → TakesExactly world_line old new false → IsStuck AreWorldLines old new
no_world old new none = stays AreWorldLines old old new [] none.0 (passes_none old) (stops_none old none.1)

pub no_name : (old a new : LineState) → Passes old a (world_line ∷ []) → (new ≡ a) × IsNotAhead IsName name_line a → IsStuck AreWorldLines old new
no_name old a new one none = stays AreWorldLines old a new (world_line ∷ []) none.0 one (stops_world a none.1)

two : (old a b : LineState) (x y : List ℕ) → Passes old a (x ∷ []) → Passes a b (y ∷ []) → Passes old b (x ∷ y ∷ [])
two old a b x y one second = passes_then old a b (x ∷ []) (y ∷ []) one second

pub no_system : (old a b new : LineState) (name : List ℕ) → Passes old a (world_line ∷ []) → IsName name → Passes a b (name_line name ∷ []) →
    (new ≡ b) × ((line version system : List ℕ) (more : List (List ℕ)) → b.lines ≡ line ∷ more → IsSystemLine line version system → ⊥) → IsStuck AreWorldLines old new
no_system old a b new name one h second none =
    stays AreWorldLines old b new (world_line ∷ name_line name ∷ []) none.0 (two old a b world_line (name_line name) one second) (stops_name name b h none.1)

three : (old a b c : LineState) (x y z : List ℕ) → Passes old a (x ∷ []) → Passes a b (y ∷ []) → Passes b c (z ∷ []) → Passes old c (x ∷ y ∷ z ∷ [])
three old a b c x y z one second third = passes_then old b c (x ∷ y ∷ []) (z ∷ []) (two old a b x y one second) third

pub no_offset : (old a b c new : LineState) (name line version system : List ℕ) → Passes old a (world_line ∷ []) → IsName name → Passes a b (name_line name ∷ []) → IsSystemLine line version system → Passes b c (line ∷ []) →
    (new ≡ c) × IsNotAhead IsOffset offset_line c → IsStuck AreWorldLines old new
no_offset old a b c new name line version system one h second s third none =
    stays AreWorldLines old c new (world_line ∷ name_line name ∷ line ∷ []) none.0 (three old a b c world_line (name_line name) line one second third)
    (stops_system name line version system c h s none.1)

four : (old a b c d : LineState) (x y z u : List ℕ) → Passes old a (x ∷ []) → Passes a b (y ∷ []) → Passes b c (z ∷ []) → Passes c d (u ∷ []) → Passes old d (x ∷ y ∷ z ∷ u ∷ [])
four old a b c d x y z u one second third fourth = passes_then old c d (x ∷ y ∷ z ∷ []) (u ∷ []) (three old a b c x y z one second third) fourth

pub no_moment : (old a b c d new : LineState) (name line version system : List ℕ) (offset : ℤ) → Passes old a (world_line ∷ []) → IsName name → Passes a b (name_line name ∷ []) → IsSystemLine line version system → Passes b c (line ∷ []) →
    IsOffset offset → Passes c d (offset_line offset ∷ []) → (new ≡ d) × IsNotAhead IsMoment moment_line d → IsStuck AreWorldLines old new
no_moment old a b c d new name line version system offset one h second s third o fourth none =
    stays AreWorldLines old d new (world_line ∷ name_line name ∷ line ∷ offset_line offset ∷ []) none.0 (four old a b c d world_line (name_line name) line (offset_line offset) one second third fourth)
    (stops_offset name line version system offset d h s o none.1)

pub head_read : (old a b c d new : LineState) (line : List ℕ) (head : Head) → Passes old a (world_line ∷ []) → IsName head.name → Passes a b (name_line head.name ∷ []) → IsSystemLine line head.version head.system → Passes b c (line ∷ []) →
    IsOffset head.offset → Passes c d (offset_line head.offset ∷ []) → IsMoment head.moment → Passes d new (moment_line head.moment ∷ []) →
    (first : List (List ℕ)) × IsHead first head × Passes old new first
head_read old a b c d new line head one h second s third o fourth m fifth = (
  world_line ∷ name_line head.name ∷ line ∷ offset_line head.offset ∷ moment_line head.moment ∷ [],
  head_by head line h s o m,
  passes_then old d new (world_line ∷ name_line head.name ∷ line ∷ offset_line head.offset ∷ []) (moment_line head.moment ∷ [])
      (four old a b c d world_line (name_line head.name) line (offset_line head.offset) one second third fourth) fifth,
)

-- ---- rows
pub no_rows : (d : Draft) (state : LineState) → HasRows d state state d
no_rows d state = record { rows = []; passes = passes_none state; adds = refl }

pub one_more : (first mid last : Draft) (old state new : LineState) (line : List ℕ) → HasRows first old state mid → Adds mid line last → Passes state new (line ∷ []) → HasRows first old new last
one_more first mid last old state new line h adds takes = record {
  rows = h.rows ++ line ∷ [];
  passes = passes_then old state new h.rows (line ∷ []) h.passes takes;
  adds = all_snoc h.rows line first mid last h.adds adds;
}

-- the line ahead isn't the last one, and adds nothing
bad_row : (d : Draft) (state : LineState) (line : List ℕ) (more : List (List ℕ)) → state.lines ≡ line ∷ more → line ≢ end_line → ((next : Draft) → Adds d line next → ⊥) → IsBadRow d state
bad_row d state line more ahead other none here rest is =
    let P : List ℕ → Type 0 = λ l. (l ≢ end_line) × ((next : Draft) → Adds d l next → ⊥) in
    subst P (cons_head line here more rest (sym ahead ∙ is)) (other, none)

pub rows_fail : (first d last : Draft) (old state : LineState) (line : List ℕ) (more : List (List ℕ)) (fault : Fault) → HasRows first old state d → state.lines ≡ line ∷ more → line ≢ end_line →
    Takes (Adds d line) last (Err fault) → ReadsRows first old state last (Err fault)
rows_fail first d last old state line more Bad has ahead other none = (d, has, bad_row d state line more ahead other none)
rows_fail first d last old state line more Memory has ahead other none = tt

-- the last line isn't ahead, and no other is
no_last : (d : Draft) (state : LineState) → ((line : List ℕ) (more : List (List ℕ)) → state.lines ≡ line ∷ more → line ≡ end_line) → ((more : List (List ℕ)) → state.lines ≡ end_line ∷ more → ⊥) → IsBadRow d state
no_last d state only none line more ahead = absurd (none more (ahead ∙ ap (λ (l : List ℕ). l ∷ more) (only line more ahead)))

pub body_unended : (first d last : Draft) (old mid new : LineState) → HasRows first old mid d → ((line : List ℕ) (more : List (List ℕ)) → mid.lines ≡ line ∷ more → line ≡ end_line) →
    TakesExactly end_line mid new false → ReadsBody first old new last (Err Bad)
body_unended first d last old mid new has only none =
    let P : LineState → Type 0 = λ s. ReadsBody first old s last (Err Bad) in
    subst P (sym none.0) (d, has, no_last d mid only none.1)

-- ---- the whole
-- the text of a world that was read
pub world_is : (text : List ℕ) (new : LineState) (w : WorldState) → ReadsLines (before_lines text) new (Ok w) → IsOver new → ReadsWorld text (Ok w)
world_is text new w (lines, describes, passes) over =
    let stands = stands_behind text lines new passes in
    let P : List (List ℕ) → Type 0 = λ l. Describes l w in
    let here = subst P (sym (all_lines text lines new stands over.0)) describes in
    (stands.unended ∙ over.1, here, λ other is. describes_one (lines_of text) w other here is)

-- a text that describes a world is read
pub world_read : (text : List ℕ) (w : WorldState) (answer : Result WorldState WorldError) → unended_of text ≡ [] → Describes (lines_of text) w → ReadsWorld text answer → (answer ≡ Ok w) ⊎ (answer ≡ Err error.Memory)
world_read text w (Ok v) none describes h = inl (ap (λ (x : WorldState). Ok x) (sym (h.2 w describes)))
world_read text w (Err (error.BadLine n)) none describes h = absurd (first_bad_line-none AreWorldLines text h.0 (none, (w, describes)) h.1)
world_read text w (Err error.Memory) none describes h = inr refl

-- a body behind a head
pub lines_read : (old mid new : LineState) (first : List (List ℕ)) (head : Head) (start last : Draft) → start ≡ just (bare head) → IsHead first head → Passes old mid first → ReadsBody start mid new last (Ok tt) →
    ReadsLines old new (Ok last.world)
lines_read old mid new first head start last same h passes (d, at, has, end, is) =
    let P : Draft → Type 0 = λ s. HasRows s mid at d in
    let rows = subst P same has in
    let Q : WorldState → Type 0 = λ w. ReadsLines old new (Ok w) in
    subst Q (ap (λ (x : Draft). x.world) (sym is)) (
      (first ++ rows.rows) ++ end_line ∷ [],
      whole_rows first rows.rows head d h rows.adds,
      passes_then old at new (first ++ rows.rows) (end_line ∷ []) (passes_then old mid at first rows.rows passes rows.passes) end,
    )

pub lines_fail : (old mid new : LineState) (first : List (List ℕ)) (head : Head) (start last : Draft) (fault : Fault) → start ≡ just (bare head) → IsHead first head → Passes old mid first →
    ReadsBody start mid new last (Err fault) → ReadsLines old new (Err fault)
lines_fail old mid new first head start last Bad same h passes (d, has, bad) =
    let P : Draft → Type 0 = λ s. HasRows s mid new d in
    let rows = subst P same has in
    (first ++ rows.rows, passes_then old mid new first rows.rows passes rows.passes, stops_rows first rows.rows head d new h rows.adds bad)
lines_fail old mid new first head start last Memory same h passes body = tt

-- the world of a head, with nothing pending
pub start_is : (draft : Draft) (w : WorldState) (name system version : List ℕ) (offset moment : ℤ) (head : Head) → draft ≡ record { world = w; pending = Nothing } → w ≡ nothing_on name system version offset moment →
    name ≡ head.name → system ≡ head.system → version ≡ head.version → offset ≡ head.offset → moment ≡ head.moment → draft ≡ just (bare head)
start_is draft w name system version offset moment head is world n s v o m =
    is ∙ ap (λ (x : WorldState). just x) (world
    ∙ ap (λ (x : List ℕ). nothing_on x system version offset moment) n ∙ ap (λ (x : List ℕ). nothing_on head.name x version offset moment) s
    ∙ ap (λ (x : List ℕ). nothing_on head.name head.system x offset moment) v ∙ ap (λ (x : ℤ). nothing_on head.name head.system head.version x moment) o
    ∙ ap (λ (x : ℤ). nothing_on head.name head.system head.version head.offset x) m)
