use Rattle.std.proofs.Common.{◌≡◌, rules, Bool, true, false, refl, sym, ◌∙◌}
use Rattle.std.specs.Prelude.{not}
use Rattle.std.specs.Str.{bytes_eq}
use Rattle.std.proofs.lemmas.Slice.Eq.{bytes_eq-Decides}
use Rattle.script_run.proofs.run.Run.take.Goals as goal

not_unequal : (b : Bool) → not b ≡ false → b ≡ true
not_unequal true h = refl
not_unequal false h = absurd (cc)

pub returns-clause-wanted : goal.returns-clause-wanted
returns-clause-wanted c = (
  λ t. (bytes_eq-Decides c.args.fetch.sha256 c.args.digest.now).0 (not_unequal (bytes_eq c.args.fetch.sha256 c.args.digest.now) (sym c.ne.ensures ∙ c.if-ne.false)),
  λ e. search rules,
)
