use Rattle.std.proofs.Common.{◌<◌, ℕ, List, [], ◌∷◌, ◌++◌, Vec, Global, length, sym, ap, ◌∙◌, arith}
use Rattle.group_core.specs.declared.computers.Computer.{Computer}
use Rattle.group_core.proofs.FittingLemmas.{fit_more, unfit_more}
use Rattle.group_core.proofs.kept_group.members_among.Goals as goal
use Rattle.group_core.proofs.kept_group.members_among.Goals.{then-is_fitting+in_ok-to_text+in_ok-push, else-is_fitting}

pub loop-computer-preserved : goal.loop-computer-preserved
loop-computer-preserved c =
    let xs : List Computer = c.args.computers.now in
    let i = c.loop-computer.computer-index in
    let x : Computer = c.computer-item.result in
    let inside : i < length xs = search (arith, c.loop-computer-test.true) in
    elim c.if-is_fitting.branch [
      | then-is_fitting+in_ok-to_text+in_ok-push w ↦
          ap (λ (v : Vec (List ℕ) Global). v.items) w.members-is ∙ w.in_ok-push.ensures.items ∙ (λ t. c.loop-computer.invariant t ++ w.in_ok-to_text.ensures t ∷ [])
          ∙ sym (fit_more c.args.group.now xs i x inside c.computer-item.is (sym c.is_fitting.ensures ∙ w.if-is_fitting.true))
      | else-is_fitting w ↦ ap (λ (v : Vec (List ℕ) Global). v.items) w.members-is ∙ c.loop-computer.invariant ∙ sym (unfit_more c.args.group.now xs i x inside c.computer-item.is (sym c.is_fitting.ensures ∙ w.if-is_fitting.false))
    ]
