use Rattle.std.proofs.Common.{ap, sym, ◌∙◌, rules, SFits, w64}
use Rattle.std.specs.Prelude.{option_copied}
use Rattle.std.proofs.lemmas.Int.{to_z-of_z}
use Rattle.act_rules.proofs.OwedLemmas.{owed_first, owed_from_counts, counts_from_owed}
use Rattle.act_rules.proofs.tally.Tally.owed.Goals as goal

pub returns-in-None : goal.returns-in-None
returns-in-None c = λ rows is stands e.
    (λ _. owed_first c.args.rules.now rows c.args.moment (sym (ap option_copied c.in-None.is) ∙ e), λ _. search rules)

pub returns-in-Some : goal.returns-in-Some
returns-in-Some c = λ rows is stands e.
    let f : SFits w64 c.args.moment = c.ranges.moment in
    let last = sym (ap option_copied c.in-Some.is) ∙ e in
    let owes = simp to_z-of_z at c.owes_after.ensures in (
      λ h. owed_from_counts c.args.rules.now c.args.self.now rows c.in-Some.row.now c.args.moment is stands last (owes.0 h),
      λ h. owes.1 (counts_from_owed c.args.rules.now c.args.self.now rows c.in-Some.row.now c.args.moment is stands last h),
    )
