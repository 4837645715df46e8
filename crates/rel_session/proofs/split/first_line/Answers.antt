use Rattle.std.proofs.Common.{◌≡◌, ℕ, ◌-◌, List, length, take, drop, arith, add-one, eq-eqb}
use Rattle.std.proofs.lemmas.Grind.{common_steps}
use Rattle.std.proofs.lemmas.Bool.{eqb-true}
use Rattle.rel_session.proofs.LineLemmas.{lines_of_first, lines_of_one}
use Rattle.rel_session.proofs.split.first_line.Goals as goal

-- what `&text[n..]` is
rest_from : (n : ℕ) (text : List ℕ) → take (length text - n) (drop n text) ≡ drop n text
rest_from n text = grind (arith, common_steps)

pub returns-in-Some-clause-lines : goal.returns-in-Some-clause-lines
returns-in-Some-clause-lines c =
    let found = c.in-Some.ensures.0 in
    rw (rest_from, add-one) (lines_of_first c.args.text.now c.in-Some.end found.high (λ k below is. found.before k (omega arith) below (eq-eqb _ 10 is)) (eqb-true _ 10 c.in-Some.ensures.1))

pub returns-in-None-clause-lines : goal.returns-in-None-clause-lines
returns-in-None-clause-lines c =
    lines_of_one c.args.text.now c.requires (λ k below is. c.in-None.ensures k (omega arith) below (eq-eqb _ 10 is))
