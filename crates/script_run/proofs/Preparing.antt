-- How the parts of a line make the whole of it.
use Rattle.std.proofs.Common.{◌≡◌, ℕ, ◌+◌, ◌<◌, ◌≤◌, Bool, true, false, ℤ, pos, Some, None, List, [], ◌∷◌, length, drop, get_or, refl, sym, ap, subst, ◌∙◌}
use Rattle.std.proofs.lemmas.List.{drop_more, drop_all}
use Rattle.std.specs.Prelude.{Result, Ok, Err}
use Rattle.rel_value.specs.TimesRead.{time_of}
use Rattle.bf_world.specs.declared.command.Command.{Command}
use Rattle.bf_world.specs.Answers.{HasMoment}
use Rattle.bf_world.specs.declared.command.Command.TheVariants.{Start}
use Rattle.bf_machine.proofs.Looking.{OnlyLooks-refl, OnlyLooks-trans}
use Rattle.bf_machine.specs.Views.{MachineView, OnlyLooks}
use Rattle.rel_sources.specs.declared.scene.Scene.{Scene}
use Rattle.script_text.specs.declared.line.Line.{Line}
use Rattle.script_text.specs.declared.line.Line.TheVariants as line
use Rattle.script_text.specs.declared.template.Template.{Template}
use Rattle.script_run.specs.declared.broken.Broken.{Broken}
use Rattle.script_run.specs.declared.broken.Broken.TheVariants as broken
use Rattle.script_run.specs.declared.cause.Cause.TheVariants.{BadDate}
use Rattle.script_run.specs.declared.lines.Prepared.{Prepared}
use Rattle.script_run.specs.declared.lines.Prepared.TheVariants.{Undated, Does, Awaits}
use Rattle.script_run.specs.Walks.{Known, Settled, Next, Walk, Rest, doing, awaiting, failing}
use Rattle.script_run.specs.LineWalks.{line_walk, timed}
use Rattle.script_run.specs.Asking.{When, when_of, known_in}
use Rattle.script_run.specs.RunSteps.{IsTextOf}
use Rattle.script_run.specs.Fills.{Reaches, Breaks, Fills, Asks, FillsTemplate, PreparesLine, start_line, await_line}
use Rattle.script_run.proofs.Chains.{reach_none, reach_then, reach_same, breaks_after}

-- ---- expressions one after another
-- texts were asked, and then what is behind them
fills_then : {V : Type 0} (at : When) (line : ℕ) (known : Known) (old : MachineView) (f : Walk) (mid : MachineView) (g : Walk) (result : Result V Broken) (new : MachineView) (left : Bool → V → Walk) →
    Reaches (IsTextOf line) at old f mid g → Fills at line known mid g result new left → Fills at line known old f result new left
fills_then at line known old f mid g (Ok value) new left a b = (b.0, reach_then (IsTextOf line) at old f mid g new (left b.0 value) a b.1)
fills_then at line known old f mid g (Err broken) new left a b = breaks_after at line known old f mid g broken new a b

pub asks_then : {U V R : Type 0} (scene : Scene) (f : ℕ → Bool → R → Rest) (old : MachineView) (u : U) (mid : MachineView) (g : ℕ → Bool → U → R → Rest) (result : Result V Broken) (new : MachineView)
    (left : ℕ → Bool → V → R → Rest) →
    Asks scene f old (Ok u) mid g → Asks scene (λ line midway behind. g line midway u behind) mid result new left → Asks scene f old result new left
asks_then scene f old u mid g result new left a b = record {
  fills = λ line midway behind.
      let x = a.fills line midway behind in
      fills_then (when_of scene) line (known_in scene) old (f line midway behind (known_in scene)) mid (g line x.0 u behind (known_in scene)) result new
      (λ later value. left line later value behind (known_in scene)) x.1 (b.fills line x.0 behind);
  only = OnlyLooks-trans a.only b.only;
}

-- nothing was asked yet
pub asks_none : {U R : Type 0} (scene : Scene) (f : ℕ → Bool → R → Rest) (v : MachineView) (u : U) → Asks scene f v (Ok u) v (λ line midway done behind. f line midway behind)
asks_none scene f v u = record {
  fills = λ line midway behind. (midway, reach_none (IsTextOf line) (when_of scene) v (f line midway behind (known_in scene)) (f line midway behind (known_in scene)) (λ more. refl));
  only = OnlyLooks-refl v;
}

-- an error that is passed on
pub asks_err : {V R : Type 0} (scene : Scene) (f : ℕ → Bool → R → Rest) (old : MachineView) (result : Result V Broken) (y e : Broken) (new : MachineView) (left : ℕ → Bool → V → R → Rest) → result ≡ Err y → y ≡ e →
    ((line : ℕ) (midway : Bool) (behind : R) → Breaks (when_of scene) line (known_in scene) old (f line midway behind (known_in scene)) e new) → OnlyLooks old new → Asks scene f old result new left
asks_err {V} scene f old result y e new left is same h only =
    let own : Asks scene f old (Err e) new left = record { fills = h; only = only } in
    let P : Result V Broken → Type 0 = λ r. Asks scene f old r new left in
    subst P (sym (is ∙ ap Err same)) own

-- the next of what is left
pub items_next : {T V : Type 0} (scene : Scene) (k : ℕ → Bool → List T → List ℕ → (Bool → List ℕ → Rest) → Rest) (all items : List T) (i : ℕ) (item : T) (text more : List ℕ) (old mid : MachineView) (u : Unit {0})
    (result : Result V Broken) (new : MachineView) (left : ℕ → Bool → V → (Bool → List ℕ → Rest) → Rest) → i < length items → item ≡ get_or items i item →
    Asks scene (λ line midway behind. k line midway all text behind) old (Ok u) mid (λ line midway done behind. k line midway (drop i items) more behind) →
    Asks scene (λ line midway behind. k line midway (item ∷ drop (i + 1) items) more behind) mid result new left → Asks scene (λ line midway behind. k line midway all text behind) old result new left
items_next {T} scene k all items i item text more old mid u result new left below is a b =
    let e : drop i items ≡ item ∷ drop (i + 1) items = drop_more items i item below ∙ ap (λ x. x ∷ drop (i + 1) items) (sym is) in
    let P : List T → Type 0 = λ xs. Asks scene (λ line midway behind. k line midway all text behind) old (Ok u) mid (λ line midway (done : Unit {0}) behind. k line midway xs more behind) in
    asks_then scene (λ line midway behind. k line midway all text behind) old u mid (λ line midway done behind. k line midway (item ∷ drop (i + 1) items) more behind) result new left (subst P e a) b

-- nothing is left
pub items_end : {T : Type 0} (scene : Scene) (k : ℕ → Bool → List T → List ℕ → (Bool → List ℕ → Rest) → Rest) (own items : List T) (i : ℕ) (text more : List ℕ) (old mid : MachineView) (u : Unit {0}) →
    items ≡ own → length items ≤ i → Asks scene (λ line midway behind. k line midway items text behind) old (Ok u) mid (λ line midway done behind. k line midway (drop i items) more behind) →
    Asks scene (λ line midway behind. k line midway own text behind) old (Ok u) mid (λ line midway done behind. k line midway [] more behind)
items_end {T} scene k own items i text more old mid u same end a =
    let P : List T → List T → Type 0 = λ xs ys. Asks scene (λ line midway behind. k line midway xs text behind) old (Ok u) mid (λ line midway (done : Unit {0}) behind. k line midway ys more behind) in
    subst (λ xs. P xs []) same (subst (P items) (drop_all i items end) a)

-- what was asked, by the name of its list
pub items_as : {T V : Type 0} (scene : Scene) (k : ℕ → Bool → List T → List ℕ → (Bool → List ℕ → Rest) → Rest) (own items : List T) (text : List ℕ) (old : MachineView) (result : Result V Broken) (new : MachineView)
    (left : ℕ → Bool → V → (Bool → List ℕ → Rest) → Rest) → items ≡ own →
    Asks scene (λ line midway behind. k line midway items text behind) old result new left → Asks scene (λ line midway behind. k line midway own text behind) old result new left
items_as {T} scene k own items text old result new left same a =
    let P : List T → Type 0 = λ xs. Asks scene (λ line midway behind. k line midway xs text behind) old result new left in
    subst P same a

-- ---- the whole line
-- a line that isn't gone through
pub breaks_line : (scene : Scene) (what : Line) (old : MachineView) (result : Result Prepared Broken) (y e : Broken) (new : MachineView) → result ≡ Err y → y ≡ e → OnlyLooks old new →
    ((line : ℕ) (rest : Rest) → Breaks (when_of scene) line (known_in scene) old (line_walk line what rest (known_in scene)) e new) → PreparesLine scene what old result new
breaks_line scene what old result y e new is same only h =
    let own : PreparesLine scene what old (Err e) new = record { prepares = h; date = tt; only = only } in
    let P : Result Prepared Broken → Type 0 = λ r. PreparesLine scene what old r new in
    subst P (sym (is ∙ ap Err same)) own

-- a command that is left to do
pub does_line : (scene : Scene) (what : Line) (old : MachineView) (prepared : Prepared) (command : Command) (new : MachineView) → prepared ≡ Does command → HasMoment command → OnlyLooks old new →
    ((line : ℕ) (rest : Rest) → (midway : Bool) × Reaches (IsTextOf line) (when_of scene) old (line_walk line what rest (known_in scene)) new (doing line midway command rest (known_in scene))) →
    PreparesLine scene what old (Ok prepared) new
does_line scene what old prepared command new is date only h =
    let own : PreparesLine scene what old (Ok (Does command)) new = record { prepares = h; date = date; only = only } in
    let P : Prepared → Type 0 = λ p. PreparesLine scene what old (Ok p) new in
    subst P (sym is) own

-- a program that is left to start, hidden or not
pub starts_line : (scene : Scene) (old : MachineView) (hidden : Bool) (command : Template) (prepared : Prepared) (text : List ℕ) (new : MachineView) → prepared ≡ Does (Start text hidden) →
    FillsTemplate scene command old (Ok text) new → PreparesLine scene (start_line hidden command) old (Ok prepared) new
starts_line scene old false command prepared text new is a = does_line scene (line.Run command) old prepared (Start text false) new is tt a.only (λ line rest. a.fills line false (λ midway text. doing line midway (Start text false) rest))
starts_line scene old true command prepared text new is a = does_line scene (line.RunHidden command) old prepared (Start text true) new is tt a.only (λ line rest. a.fills line false (λ midway text. doing line midway (Start text true) rest))

-- the same of a program that is waited for
pub awaits_line : (scene : Scene) (old : MachineView) (hidden : Bool) (command : Template) (text : List ℕ) (new : MachineView) →
    FillsTemplate scene command old (Ok text) new → PreparesLine scene (await_line hidden command) old (Ok (Awaits (Start text hidden))) new
awaits_line scene old false command text new a = record { prepares = λ line rest. a.fills line false (λ midway text. awaiting line midway (Start text false) rest); date = tt; only = a.only }
awaits_line scene old true command text new a = record { prepares = λ line rest. a.fills line false (λ midway text. awaiting line midway (Start text true) rest); date = tt; only = a.only }

-- the line by its name
pub line_as : (scene : Scene) (what own : Line) (old : MachineView) (result : Result Prepared Broken) (new : MachineView) → what ≡ own → PreparesLine scene own old result new → PreparesLine scene what old result new
line_as scene what own old result new is h =
    let P : Line → Type 0 = λ l. PreparesLine scene l old result new in
    subst P (sym is) h

-- what is left to do, by its name
pub prepared_as : (scene : Scene) (what : Line) (old : MachineView) (p q : Prepared) (new : MachineView) → p ≡ q → PreparesLine scene what old (Ok p) new → PreparesLine scene what old (Ok q) new
prepared_as scene what old p q new e h = let P : Prepared → Type 0 = λ x. PreparesLine scene what old (Ok x) new in subst P e h

pub broken_as : (scene : Scene) (what : Line) (old : MachineView) (p q : Broken) (new : MachineView) → p ≡ q → PreparesLine scene what old (Err p) new → PreparesLine scene what old (Err q) new
broken_as scene what old p q new e h = let P : Broken → Type 0 = λ x. PreparesLine scene what old (Err x) new in subst P e h

-- ---- times
-- a line whose date is no time
pub undated_line : (scene : Scene) (what : Line) (old new : MachineView) (midway last : Bool) → midway ≡ last → OnlyLooks old new →
    ((line : ℕ) (rest : Rest) → Reaches (IsTextOf line) (when_of scene) old (line_walk line what rest (known_in scene)) new (failing line last BadDate (known_in scene))) → PreparesLine scene what old (Ok (Undated midway)) new
undated_line scene what old new midway last is only h =
    let own : PreparesLine scene what old (Ok (Undated last)) new = record { prepares = h; date = tt; only = only } in
    let P : Bool → Type 0 = λ w. PreparesLine scene what old (Ok (Undated w)) new in
    subst P (sym is) own

-- a text that was asked is the time text of a moment
pub timed_some : (P : Next → Settled → Type 0) (at : When) (old : MachineView) (f : Walk) (new : MachineView) (n : ℕ) (midway : Bool) (text : List ℕ) (moment : ℤ) (rest : ℤ → Rest) (known : Known) →
    Reaches P at old f new (timed n midway (time_of text) rest known) → (seconds : ℕ) × (time_of text ≡ Some seconds) × (moment ≡ pos seconds) → Reaches P at old f new (rest moment known)
timed_some P at old f new n midway text moment rest known a h =
    reach_same P at old f new (timed n midway (time_of text) rest known) (rest moment known) a (λ more. ap (λ o. timed n midway o rest known more) h.1 ∙ ap (λ z. rest z known more) (sym h.2))

-- or of none
pub timed_none : (P : Next → Settled → Type 0) (at : When) (old : MachineView) (f : Walk) (new : MachineView) (n : ℕ) (midway : Bool) (text : List ℕ) (rest : ℤ → Rest) (known : Known) →
    Reaches P at old f new (timed n midway (time_of text) rest known) → time_of text ≡ None → Reaches P at old f new (failing n midway BadDate known)
timed_none P at old f new n midway text rest known a h =
    reach_same P at old f new (timed n midway (time_of text) rest known) (failing n midway BadDate known) a (λ more. ap (λ o. timed n midway o rest known more) h)
