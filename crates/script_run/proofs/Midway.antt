-- Whether a line is midway behind its templates, whatever its expressions are answered.
use Rattle.std.proofs.Common.{◌≡◌, ◌≢◌, ℕ, ◌+◌, ◌<◌, ◌≤◌, Bool, true, false, List, [], ◌∷◌, ◌++◌, length, drop, get_or, refl, sym, ap, ◌∙◌}
use Rattle.std.proofs.lemmas.List.{drop_more, drop_all}
use Rattle.std.specs.Prelude.{Ok}
use Rattle.rel_value.specs.TimesRead.{time_of}
use Rattle.bf_world.specs.declared.command.Command.TheVariants as command
use Rattle.bf_machine.specs.Views.{MachineView}
use Rattle.rel_sources.specs.declared.scene.Scene.{Scene}
use Rattle.rel_eval.specs.declared.told.OneText.TheVariants as one_text
use Rattle.script_text.specs.declared.line.Line.TheVariants as line
use Rattle.script_text.specs.declared.template.Part2.{Part2}
use Rattle.script_text.specs.declared.template.Part2.TheVariants.{Plain, Expression}
use Rattle.script_text.specs.declared.template.Template.{Template}
use Rattle.script_run.specs.declared.filling.Both.{Both}
use Rattle.script_run.specs.Walks.{Known, Settled, said, Rest, saying, doing}
use Rattle.script_run.specs.LineWalks.{filling, filled, timed, dated, line_walk}
use Rattle.script_run.specs.Asking.{when_of, known_in}
use Rattle.script_run.specs.RunSteps.{IsTextOf}
use Rattle.script_run.specs.Fills.{Reaches, FillsTemplate, FillsTwo, asks_after}
use Rattle.script_run.proofs.Chains.{reach_then, reach_from}

-- ---- the parts of a template
still_asked : (parts : List Part2) → asks_after true parts ≡ true
still_asked [] = refl
still_asked (Plain plain ∷ parts) = still_asked parts
still_asked (Expression e ∷ parts) = still_asked parts

-- behind an expression a line is midway
pub asked_here : (midway : Bool) (all items : List Part2) (i : ℕ) (item : Part2) (e : List ℕ) → i < length items → item ≡ get_or items i item → item ≡ Expression e → items ≡ all →
    asks_after midway items ≡ asks_after midway (drop i items) → true ≡ asks_after midway all
asked_here midway all items i item e below is expression same h =
    let d : drop i items ≡ Expression e ∷ drop (i + 1) items = drop_more items i item below ∙ ap (λ x. x ∷ drop (i + 1) items) (sym is ∙ expression) in
    sym (still_asked (drop (i + 1) items)) ∙ sym (ap (asks_after midway) d) ∙ sym h ∙ ap (asks_after midway) same

-- any other part leaves it as it is
pub plain_here : (midway : Bool) (items : List Part2) (i : ℕ) (item : Part2) → i < length items → item ≡ get_or items i item → ((e : List ℕ) → item ≢ Expression e) →
    asks_after midway items ≡ asks_after midway (drop i items) → asks_after midway items ≡ asks_after midway (drop (i + 1) items)
plain_here midway items i item below is other h =
    let d : drop i items ≡ item ∷ drop (i + 1) items = drop_more items i item below ∙ ap (λ x. x ∷ drop (i + 1) items) (sym is) in
    h ∙ ap (asks_after midway) d ∙ plainly item other
  where
    plainly : (part : Part2) → ((e : List ℕ) → part ≢ Expression e) → asks_after midway (part ∷ drop (i + 1) items) ≡ asks_after midway (drop (i + 1) items)
    plainly (Plain plain) other = refl
    plainly (Expression e) other = absurd (other e refl)

-- without an expression a line is midway behind a template where it was before it
pub none_here : (midway : Bool) (all items : List Part2) (i : ℕ) → length items ≤ i → items ≡ all → asks_after midway items ≡ asks_after midway (drop i items) → midway ≡ asks_after midway all
none_here midway all items i end same h = sym (ap (asks_after midway) (drop_all i items end)) ∙ sym h ∙ ap (asks_after midway) same

-- ---- walks
saying_same : (n : ℕ) (midway : Bool) (e : List ℕ) (f g : List ℕ → Rest) (known : Known) → ((text : List ℕ) (more : List Settled) → f text known more ≡ g text known more) →
    (more : List Settled) → saying n midway e f known more ≡ saying n midway e g known more
saying_same n midway e f g known same [] = refl
saying_same n midway e f g known same (said (one_text.Text text) ∷ more) = same text more
saying_same n midway e f g known same (said (one_text.Error kind place) ∷ more) = refl
saying_same n midway e f g known same (said (one_text.Failed place) ∷ more) = refl
saying_same n midway e f g known same (said one_text.Memory ∷ more) = refl
saying_same n midway e f g known same (_ ∷ more) = refl

filling_asks : (n : ℕ) (midway : Bool) (parts : List Part2) (text : List ℕ) (rest : Bool → List ℕ → Rest) (known : Known) (more : List Settled) →
    filling n midway parts text rest known more ≡ filling n midway parts text (λ later. rest (asks_after midway parts)) known more
filling_asks n midway [] text rest known more = refl
filling_asks n midway (Plain plain ∷ parts) text rest known more = filling_asks n midway parts (text ++ plain) rest known more
filling_asks n midway (Expression e ∷ parts) text rest known more =
    saying_same n midway e (λ t. filling n true parts (text ++ t) rest) (λ t. filling n true parts (text ++ t) (λ later. rest (asks_after true parts))) known
    (λ t. filling_asks n true parts (text ++ t) rest known) more

-- Behind a template the rest is told what its parts say.
filled_asks : (n : ℕ) (midway : Bool) (template : Template) (rest : Bool → List ℕ → Rest) →
    filled n midway template rest ≡ filled n midway template (λ later. rest (asks_after midway template.parts))
filled_asks n midway template rest = λ i known more. filling_asks n midway template.parts [] rest known more i

-- whether a line is midway behind two templates
abbrev pub behind_two : Bool → Template → Template → Bool
behind_two midway first second = asks_after (asks_after midway first.parts) second.parts

two_ask : (n : ℕ) (midway : Bool) (first second : Template) (rest : Bool → List ℕ → List ℕ → Rest) →
    filled n midway first (λ later one. filled n later second (λ last. rest last one))
    ≡ filled n midway first (λ later one. filled n later second (λ last. rest (behind_two midway first second) one))
two_ask n midway first second rest =
    filled_asks n midway first (λ later one. filled n later second (λ last. rest last one))
    ∙ (λ i. filled n midway first (λ later one. filled_asks n (asks_after midway first.parts) second (λ last. rest last one) i))
    ∙ sym (filled_asks n midway first (λ later one. filled n later second (λ last. rest (behind_two midway first second) one)))

-- ---- what was asked
-- a template was asked, and it is known whether the line is midway then
pub asked_one : (scene : Scene) (template : Template) (old : MachineView) (text : List ℕ) (new : MachineView) → FillsTemplate scene template old (Ok text) new → (n : ℕ) (midway : Bool) (rest : Bool → List ℕ → Rest) →
    Reaches (IsTextOf n) (when_of scene) old (filled n midway template rest (known_in scene)) new (rest (asks_after midway template.parts) text (known_in scene))
asked_one scene template old text new a n midway rest =
    let own = λ (later : Bool). rest (asks_after midway template.parts) in
    let known = known_in scene in
    reach_from (IsTextOf n) (when_of scene) old (filled n midway template rest known) (filled n midway template own known) new (rest (asks_after midway template.parts) text known)
    (λ more i. filled_asks n midway template rest i known more) (a.fills n midway own).1

pub asked_two : (scene : Scene) (first second : Template) (old : MachineView) (both : Both) (new : MachineView) → FillsTwo scene first second old (Ok both) new → (n : ℕ) (midway : Bool) (rest : Bool → List ℕ → List ℕ → Rest) →
    Reaches (IsTextOf n) (when_of scene) old (filled n midway first (λ later one. filled n later second (λ last. rest last one)) (known_in scene)) new
    (rest (behind_two midway first second) both.first both.second (known_in scene))
asked_two scene first second old both new a n midway rest =
    let own = λ (last : Bool). rest (behind_two midway first second) in
    let known = known_in scene in
    reach_from (IsTextOf n) (when_of scene) old (filled n midway first (λ later one. filled n later second (λ last. rest last one)) known)
    (filled n midway first (λ later one. filled n later second (λ last. own last one)) known) new (rest (behind_two midway first second) both.first both.second known)
    (λ more i. two_ask n midway first second rest i known more) (a.fills n midway own).1

-- ---- lines with a date
abbrev pub put_midway : Template → Template → Template → Bool
put_midway name value date = asks_after (behind_two false name value) date.parts

abbrev pub drop_midway : Template → Template → Bool
drop_midway name date = asks_after (asks_after false name.parts) date.parts

-- the texts of a setting were asked
pub put_asked : (scene : Scene) (name value date : Template) (old : MachineView) (both : Both) (mid : MachineView) (text : List ℕ) (new : MachineView) →
    FillsTwo scene name value old (Ok both) mid → FillsTemplate scene date mid (Ok text) new → (n : ℕ) (rest : Rest) →
    Reaches (IsTextOf n) (when_of scene) old (line_walk n (line.Setting name value date) rest (known_in scene)) new
    (timed n (put_midway name value date) (time_of text) (λ moment. doing n (put_midway name value date) (command.Put both.first both.second moment) rest) (known_in scene))
put_asked scene name value date old both mid text new a b n rest =
    let known = known_in scene in
    let later = behind_two false name value in
    let last = put_midway name value date in
    let puts : Bool → List ℕ → List ℕ → Rest = λ midway x y. dated n midway date (λ midway moment. doing n midway (command.Put x y moment) rest) in
    reach_then (IsTextOf n) (when_of scene) old (line_walk n (line.Setting name value date) rest known) mid (puts later both.first both.second known) new
    (timed n last (time_of text) (λ moment. doing n last (command.Put both.first both.second moment) rest) known)
    (asked_two scene name value old both mid a n false puts)
    (asked_one scene date mid text new b n later (λ midway text. timed n midway (time_of text) (λ moment. doing n midway (command.Put both.first both.second moment) rest)))

-- the texts of a setting that is dropped were asked
pub drop_asked : (scene : Scene) (name date : Template) (old : MachineView) (word : List ℕ) (mid : MachineView) (text : List ℕ) (new : MachineView) →
    FillsTemplate scene name old (Ok word) mid → FillsTemplate scene date mid (Ok text) new → (n : ℕ) (rest : Rest) →
    Reaches (IsTextOf n) (when_of scene) old (line_walk n (line.SettingDelete name date) rest (known_in scene)) new
    (timed n (drop_midway name date) (time_of text) (λ moment. doing n (drop_midway name date) (command.Drop word moment) rest) (known_in scene))
drop_asked scene name date old word mid text new a b n rest =
    let known = known_in scene in
    let later = asks_after false name.parts in
    let last = drop_midway name date in
    let drops : Bool → List ℕ → Rest = λ midway x. dated n midway date (λ midway moment. doing n midway (command.Drop x moment) rest) in
    reach_then (IsTextOf n) (when_of scene) old (line_walk n (line.SettingDelete name date) rest known) mid (drops later word known) new
    (timed n last (time_of text) (λ moment. doing n last (command.Drop word moment) rest) known)
    (asked_one scene name old word mid a n false drops)
    (asked_one scene date mid text new b n later (λ midway text. timed n midway (time_of text) (λ moment. doing n midway (command.Drop word moment) rest)))
