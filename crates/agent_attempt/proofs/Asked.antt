-- Clauses, fixlets and contents that are asked one after another.
use Rattle.std.proofs.Common.{◌≡◌, ◌≢◌, ℕ, ◌+◌, ◌<◌, ◌≤◌, inl, inr, List, [], ◌∷◌, length, get_or, drop, Option, Some, None, Result, Ok, Err, refl, sym, ap, subst, ◌∙◌}
use Rattle.std.specs.List.{cons_option}
use Rattle.std.specs.Option.{option_and_then}
use Rattle.std.proofs.lemmas.List.{drop_more, drop_all}
use Rattle.rel_sources.specs.declared.scene.Scene.{Scene}
use Rattle.rel_eval.specs.declared.told.Truth.{Truth}
use Rattle.rel_eval.specs.declared.told.Truth.TheVariants as truth
use Rattle.rel_types.specs.Plans.{PlainNode, is_plural}
use Rattle.rel_eval.specs.Questions.{IsPlanOf, question, refused, undefined}
use Rattle.rel_eval.specs.Singles.{truth_has_failed}
use Rattle.rel_trace.specs.declared.kind.RelKind.TheVariants.{NotDefined}
use Rattle.fix_site.specs.declared.block.Block.{Block}
use Rattle.fix_site.specs.declared.fixlet.Fixlet.{Fixlet}
use Rattle.script_text.specs.declared.error.ScriptError.{ScriptError}
use Rattle.script_text.specs.Scripts.{PlainScript, IsVerdict}
use Rattle.desk_base.specs.Counts.{CountsIf}
use Rattle.bf_machine.specs.Views.{MachineView, OnlyLooks}
use Rattle.bf_machine.proofs.Looking.{OnlyLooks-refl}
use Rattle.script_run.specs.Asking.{When, JudgesOn, JudgesQuestion, scene_of}
use Rattle.script_run.specs.ScriptWalks.{given_known}
use Rattle.agent_attempt.specs.declared.found.Found.{Found}
use Rattle.agent_attempt.specs.declared.found.Found.TheVariants.{Yes, No, Failed, Memory}
use Rattle.agent_attempt.specs.ActionContents.{as_fixlet, block_at, fixlets_at}
use Rattle.agent_attempt.specs.ReadTexts.{IsNoQuestion, IsScriptOf}
use Rattle.agent_attempt.specs.Relevance.{Asking, and_then, finds, or_else, found_of, Asks, AllAre, HasScript, FixletIs, SomeIs}

-- ---- clauses
-- a text that is no question is not true, and no look is made for it
pub asks_none : (at : When) (text : List ℕ) (v : MachineView) → IsNoQuestion text → Asks at text v No v
asks_none at text v (inl (kind, place, h)) = (
  truth.Error kind place,
  record { judges = inl (refused kind place, h, (refl, refl)); only = OnlyLooks-refl v; cause = refl },
  refl,
)
asks_none at text v (inr (place, words, h)) = (
  truth.Error NotDefined place,
  record { judges = inl (undefined place words, h, (refl, refl)); only = OnlyLooks-refl v; cause = refl },
  refl,
)

-- a question that was read is asked
pub asks_question : (at : When) (text : List ℕ) (plan : PlainNode) (scene : Scene) (old new : MachineView) (answer : Truth) (found : Found) → IsPlanOf text plan → scene ≡ scene_of at (given_known []) →
    JudgesQuestion (is_plural plan) old.world scene plan old.looked answer new.looked → OnlyLooks old new → CountsIf (truth_has_failed answer) old.faults new.faults → found ≡ found_of answer → Asks at text old found new
asks_question at text plan scene old new answer found reads same judges only cause e =
    let h : JudgesOn scene text old answer new =
    record { judges = inl (question plan, reads, judges); only = only; cause = cause } in
    (answer, subst (λ (s : Scene). JudgesOn s text old answer new) same h, e)

-- what is found from here on is found of the whole, which began there
abbrev pub Continues : Asking → MachineView → Asking → MachineView → Type 0
Continues one now whole start = (answer : Found) (later : MachineView) → one now answer later → whole start answer later

pub asks_next : (at : When) (texts : List (List ℕ)) (i : ℕ) (text : List ℕ) (now mid : MachineView) (whole : Asking) (start : MachineView) → i < length texts → text ≡ get_or texts i text →
    Continues (AllAre at (drop i texts)) now whole start → Asks at text now Yes mid → Continues (AllAre at (drop (i + 1) texts)) mid whole start
asks_next at texts i text now mid whole start inside is goes h answer later k =
    let split : drop i texts ≡ text ∷ drop (i + 1) texts = drop_more texts i text inside ∙ ap (λ t. t ∷ drop (i + 1) texts) (sym is) in
    goes answer later (subst (λ l. AllAre at l now answer later) (sym split) (Yes, mid, h, k))

ask_stops : (at : When) (text : List ℕ) (texts : List (List ℕ)) (now mid : MachineView) (found : Found) → found ≢ Yes → Asks at text now found mid → AllAre at (text ∷ texts) now found mid
ask_stops at text texts now mid Yes isnt h = absurd (isnt refl)
ask_stops at text texts now mid No isnt h = (No, mid, h, (refl, refl))
ask_stops at text texts now mid Failed isnt h = (Failed, mid, h, (refl, refl))
ask_stops at text texts now mid Memory isnt h = (Memory, mid, h, (refl, refl))

pub asks_stop : (at : When) (texts : List (List ℕ)) (i : ℕ) (text : List ℕ) (now mid : MachineView) (whole : Asking) (start : MachineView) (found : Found) → i < length texts → text ≡ get_or texts i text →
    Continues (AllAre at (drop i texts)) now whole start → found ≢ Yes → Asks at text now found mid → whole start found mid
asks_stop at texts i text now mid whole start found inside is goes isnt h =
    let split : drop i texts ≡ text ∷ drop (i + 1) texts = drop_more texts i text inside ∙ ap (λ t. t ∷ drop (i + 1) texts) (sym is) in
    goes found mid (subst (λ l. AllAre at l now found mid) (sym split) (ask_stops at text (drop (i + 1) texts) now mid found isnt h))

pub asks_end : (at : When) (texts : List (List ℕ)) (i : ℕ) (now : MachineView) (whole : Asking) (start : MachineView) → length texts ≤ i → Continues (AllAre at (drop i texts)) now whole start → whole start Yes now
asks_end at texts i now whole start end goes = goes Yes now (subst (λ l. AllAre at l now Yes now) (sym (drop_all i texts end)) (refl, refl))

-- ---- scripts
-- what script_text says of lines, in its law on them
abbrev pub OneVerdict : Type 0
OneVerdict = (lines : List (List ℕ)) (x y : Result PlainScript ScriptError) → IsVerdict lines x → IsVerdict lines y → x ≡ y

pub no_script : OneVerdict → (lines : List (List ℕ)) → IsScriptOf lines None → ¬ HasScript lines
no_script one_verdict lines (error, h) (script, k) = let e = one_verdict lines (Ok script) (Err error) k h in absurd (cc)

-- ---- fixlets
-- one that is relevant has a script
pub relevant_has_script : (at : When) (fixlet : Fixlet) (old new : MachineView) → FixletIs at fixlet old Yes new → HasScript fixlet.script
relevant_has_script at fixlet old new (inl h) = h.0
relevant_has_script at fixlet old new (inr h) = let e = h.1.0 in absurd (cc)

-- one that is asked alone
or_itself : (found : Found) (v : MachineView) → or_else found (finds No) v found v
or_itself Yes v = (refl, refl)
or_itself No v = (refl, refl)
or_itself Failed v = (refl, refl)
or_itself Memory v = (refl, refl)

pub one_fixlet : (at : When) (blocks : List Block) (id : ℕ) (fixlet : Fixlet) (old : MachineView) (found : Found) (new : MachineView) → option_and_then as_fixlet (block_at id blocks) ≡ Some fixlet →
    FixletIs at fixlet old found new → SomeIs at (fixlets_at (id ∷ []) blocks) old found new
one_fixlet at blocks id fixlet old found new some h =
    subst (λ (o : Option Fixlet). SomeIs at (cons_option o []) old found new) (sym some) (found, new, h, or_itself found new)

pub none_fixlet : (at : When) (blocks : List Block) (id : ℕ) (v : MachineView) → option_and_then as_fixlet (block_at id blocks) ≡ None → SomeIs at (fixlets_at (id ∷ []) blocks) v No v
none_fixlet at blocks id v none = subst (λ (o : Option Fixlet). SomeIs at (cons_option o []) v No v) (sym none) (refl, refl)

-- the first isn't relevant, and then the others are asked
or_next : (at : When) (rest : List Fixlet) (found : Found) (between mid : MachineView) (answer : Found) (later : MachineView) → or_else found (finds No) between No mid → SomeIs at rest mid answer later →
    or_else found (SomeIs at rest) between answer later
or_next at rest No between mid answer later h k = subst (λ (v : MachineView). SomeIs at rest v answer later) h.1 k
or_next at rest Yes between mid answer later h k = let e = h.0 in absurd (cc)
or_next at rest Failed between mid answer later h k = let e = h.0 in absurd (cc)
or_next at rest Memory between mid answer later h k = let e = h.0 in absurd (cc)

first_next : (at : When) (first : Option Fixlet) (rest : List Fixlet) (now mid : MachineView) (answer : Found) (later : MachineView) → SomeIs at (cons_option first []) now No mid → SomeIs at rest mid answer later →
    SomeIs at (cons_option first rest) now answer later
first_next at None rest now mid answer later h k = subst (λ (v : MachineView). SomeIs at rest v answer later) h.1 k
first_next at (Some fixlet) rest now mid answer later (found, between, is, h) k = (found, between, is, or_next at rest found between mid answer later h k)

-- the first is what is found
or_stops : (at : When) (rest : List Fixlet) (first : Found) (between : MachineView) (found : Found) (mid : MachineView) → found ≢ No → or_else first (finds No) between found mid → or_else first (SomeIs at rest) between found mid
or_stops at rest No between found mid isnt h = absurd (isnt h.0)
or_stops at rest Yes between found mid isnt h = h
or_stops at rest Failed between found mid isnt h = h
or_stops at rest Memory between found mid isnt h = h

first_stops : (at : When) (first : Option Fixlet) (rest : List Fixlet) (now : MachineView) (found : Found) (mid : MachineView) → found ≢ No → SomeIs at (cons_option first []) now found mid → SomeIs at (cons_option first rest) now found mid
first_stops at None rest now found mid isnt h = absurd (isnt h.0)
first_stops at (Some fixlet) rest now found mid isnt (own, between, is, h) = (own, between, is, or_stops at rest own between found mid isnt h)

-- the ids from this one on
ids_split : (ids : List ℕ) (i id : ℕ) → i < length ids → id ≡ get_or ids i 0 → drop i ids ≡ id ∷ drop (i + 1) ids
ids_split ids i id inside is = drop_more ids i 0 inside ∙ ap (λ n. n ∷ drop (i + 1) ids) (sym is)

pub some_next : (at : When) (ids : List ℕ) (blocks : List Block) (i id : ℕ) (now mid : MachineView) (whole : Asking) (start : MachineView) → i < length ids → id ≡ get_or ids i 0 →
    Continues (SomeIs at (fixlets_at (drop i ids) blocks)) now whole start → SomeIs at (fixlets_at (id ∷ []) blocks) now No mid → Continues (SomeIs at (fixlets_at (drop (i + 1) ids) blocks)) mid whole start
some_next at ids blocks i id now mid whole start inside is goes h answer later k =
    goes answer later (subst (λ l. SomeIs at (fixlets_at l blocks) now answer later) (sym (ids_split ids i id inside is))
    (first_next at (option_and_then as_fixlet (block_at id blocks)) (fixlets_at (drop (i + 1) ids) blocks) now mid answer later h k))

pub some_stop : (at : When) (ids : List ℕ) (blocks : List Block) (i id : ℕ) (now mid : MachineView) (whole : Asking) (start : MachineView) (found : Found) → i < length ids → id ≡ get_or ids i 0 →
    Continues (SomeIs at (fixlets_at (drop i ids) blocks)) now whole start → found ≢ No → SomeIs at (fixlets_at (id ∷ []) blocks) now found mid → whole start found mid
some_stop at ids blocks i id now mid whole start found inside is goes isnt h =
    goes found mid (subst (λ l. SomeIs at (fixlets_at l blocks) now found mid) (sym (ids_split ids i id inside is))
    (first_stops at (option_and_then as_fixlet (block_at id blocks)) (fixlets_at (drop (i + 1) ids) blocks) now found mid isnt h))

pub some_end : (at : When) (ids : List ℕ) (blocks : List Block) (i : ℕ) (now : MachineView) (whole : Asking) (start : MachineView) → length ids ≤ i →
    Continues (SomeIs at (fixlets_at (drop i ids) blocks)) now whole start → whole start No now
some_end at ids blocks i now whole start end goes = goes No now (subst (λ l. SomeIs at (fixlets_at l blocks) now No now) (sym (drop_all i ids end)) (refl, refl))

-- what isn't so is all that is found
pub and_stops : (found : Found) (next : Asking) (v : MachineView) → found ≢ Yes → and_then found next v found v
and_stops Yes next v isnt = absurd (isnt refl)
and_stops No next v isnt = (refl, refl)
and_stops Failed next v isnt = (refl, refl)
and_stops Memory next v isnt = (refl, refl)

pub some_ids : (at : When) (ids own : List ℕ) (blocks : List Block) (old : MachineView) (found : Found) (new : MachineView) → ids ≡ own → SomeIs at (fixlets_at ids blocks) old found new → SomeIs at (fixlets_at own blocks) old found new
some_ids at ids own blocks old found new e h = subst (λ l. SomeIs at (fixlets_at l blocks) old found new) e h
