-- The state at the end of an action's text. Other crates may cite these lemmas.
use Rattle.std.proofs.Common.{◌≡◌, ℕ, ◌+◌, ◌-◌, ◌==◌, List, [], ◌∷◌, ◌++◌, Bool, true, false, length, take, drop, get_or, codes, refl, sym, ap, ◌∙◌, subst, arith, append_assoc, length-append, take-append-drop}
use Rattle.std.specs.Prelude.{nat_eq}
use Rattle.std.proofs.lemmas.List.Prefix.{end_rest}
use Rattle.std.proofs.lemmas.Slice.Eq.{slice_eq-Decides}
use Rattle.std.proofs.lemmas.Bool.Decides.{Decides-eqb}
use Rattle.line_forms.specs.Lines.{lines_text}
use Rattle.fix_site.specs.declared.action.Action.{Action}
use Rattle.fix_site.specs.Actions.{IsAction, action_line, action_lines, action_text, content_line, end_line, issued_line, members_line, state_line, target_lines}
use Rattle.fix_site.specs.RuleLines.{rules_lines}
use Rattle.line_forms.proofs.LineLemmas.{lines_text-append}
use Rattle.server_text.specs.ActionStates.{before_state, is_stopped, state_end, stopped_text}

-- the lines of an action before its state
abbrev pub head_lines : Action → List (List ℕ)
head_lines action =
    action_line action.id ∷ issued_line action.issued ∷ content_line action.site action.content ∷ members_line action.all_members
    ∷ (target_lines action.target ++ rules_lines action.rules)

abbrev pub head_text : Action → List ℕ
head_text action = lines_text (head_lines action)

lines_parted : (action : Action) → action_lines action ≡ head_lines action ++ (state_line action.stopped ∷ end_line ∷ [])
lines_parted action =
    ap (λ l. action_line action.id ∷ issued_line action.issued ∷ content_line action.site action.content ∷ members_line action.all_members ∷ l)
    (sym (append_assoc (target_lines action.target) (rules_lines action.rules) (state_line action.stopped ∷ end_line ∷ [])))

-- a text is its head and its state
pub parted : (action : Action) → action_text action ≡ head_text action ++ state_end action.stopped
parted action = ap lines_text (lines_parted action) ∙ lines_text-append (head_lines action) (state_line action.stopped ∷ end_line ∷ [])

differ : true ≡ false → ⊥
differ e = cc

apart : (x y : List ℕ) → (get_or x 0 0 == 100) ≡ true → (get_or y 0 0 == 100) ≡ false → x ≡ y → ⊥
apart x y h k e = differ (sym h ∙ ap (λ (l : List ℕ). get_or l 0 0 == 100) e ∙ k)

-- no text ends with both states: the sixth byte from the end tells
two_states : (head other : List ℕ) → head ++ state_end false ≡ other ++ state_end true → ⊥
two_states head other e =
    let text = head ++ state_end false in
    let mine : text ≡ (head ++ codes "state ope") ++ codes "n\nend\n" = sym (append_assoc head (codes "state ope") (codes "n\nend\n")) in
    let yours : text ≡ (other ++ codes "state stoppe") ++ codes "d\nend\n" = e ∙ sym (append_assoc other (codes "state stoppe") (codes "d\nend\n")) in
    let one = end_rest text (codes "n\nend\n") (head ++ codes "state ope") mine in
    let two = end_rest text (codes "d\nend\n") (other ++ codes "state stoppe") yours in
    apart (codes "d\nend\n") (codes "n\nend\n") refl refl (sym two ∙ one)

ends_so : (head : List ℕ) → is_stopped (head ++ state_end true) ≡ true
ends_so head =
    let text = head ++ state_end true in
    (slice_eq-Decides Decides-eqb (state_end true) (drop (length text - length (state_end true)) text) (is_stopped text) refl).1
    (sym (end_rest text (state_end true) head refl))

ends_open : (head : List ℕ) → is_stopped (head ++ state_end false) ≡ false
ends_open head =
    let text = head ++ state_end false in
    let d = slice_eq-Decides Decides-eqb (state_end true) (drop (length text - length (state_end true)) text) (is_stopped text) refl in
    elim (is_stopped text) as (λ b. is_stopped text ≡ b → b ≡ false) [
      | true ↦ λ e. absurd (two_states head (take (length text - length (state_end true)) text) (sym (take-append-drop (length text - length (state_end true)) text) ∙ ap (λ l. take (length text - length (state_end true)) text ++ l) (sym (d.0 e))))
      | false ↦ λ e. refl
    ] refl

take_front : (front rest : List ℕ) → take (length front) (front ++ rest) ≡ front
take_front [] rest = refl
take_front (x ∷ front) rest = ap (λ l. x ∷ l) (take_front front rest)

pub state_known : (head : List ℕ) (stopped : Bool) → is_stopped (head ++ state_end stopped) ≡ stopped
state_known head true = ends_so head
state_known head false = ends_open head

pub before_known : (head : List ℕ) (stopped : Bool) → before_state (head ++ state_end stopped) ≡ head
before_known head stopped =
    let text = head ++ state_end stopped in
    let n : length text - length (state_end stopped) ≡ length head = omega (arith, length-append head (state_end stopped)) in
    ap (λ b. take (length text - length (state_end b)) text) (state_known head stopped) ∙ ap (λ k. take k text) n ∙ take_front head (state_end stopped)

pub stopped_known : (action : Action) → is_stopped (action_text action) ≡ action.stopped
stopped_known action = ap is_stopped (parted action) ∙ state_known (head_text action) action.stopped

pub before_text : (action : Action) → before_state (action_text action) ≡ head_text action
before_text action = ap before_state (parted action) ∙ before_known (head_text action) action.stopped

pub stops_text : (action : Action) → stopped_text (action_text action) ≡ action_text (record action { stopped = true })
stops_text action = ap (λ l. l ++ state_end true) (before_text action) ∙ sym (parted (record action { stopped = true }))

-- the same action, stopped or not, is one that can be spelled
pub is_action : (action : Action) (stopped : Bool) → IsAction action → IsAction (record action { stopped = stopped })
is_action action stopped is = record { id = is.id; issued = is.issued; site = is.site; content = is.content; target = is.target; rules = is.rules }

abbrev pub OneAction : Type 0
OneAction = (action other : Action) → IsAction action → IsAction other → action_text action ≡ action_text other → action ≡ other

pub same_head : OneAction → (action other : Action) → IsAction action → IsAction other → before_state (action_text action) ≡ before_state (action_text other) → action ≡ record other { stopped = action.stopped }
same_head one action other is good same =
    let heads : head_text action ≡ head_text other = sym (before_text action) ∙ same ∙ before_text other in
    let mine : Action = record action { stopped = true } in
    let yours : Action = record other { stopped = true } in
    let texts : action_text mine ≡ action_text yours = parted mine ∙ ap (λ l. l ++ state_end true) heads ∙ sym (parted yours) in
    let stands : Action → Action = λ a. record a { stopped = action.stopped } in
    let both : mine ≡ yours = one mine yours (is_action action true is) (is_action other true good) texts in
    ap stands both
