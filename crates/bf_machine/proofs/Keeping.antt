-- Commands that are kept have moments.
use Rattle.std.proofs.Common.{◌≡◌, Bool, true, false, if◌then◌else◌, List, [], ◌∷◌, ◌++◌, All, sym, subst}
use Rattle.std.proofs.lemmas.List.Elements.{All-push}
use Rattle.bf_world.specs.declared.command.Command.{Command}
use Rattle.bf_world.specs.Answers.{HasMoment}

pub moments_kept : (ok : Bool) (old new : List Command) (kept : Command) → new ≡ (if ok then old ++ kept ∷ [] else old) → All HasMoment old → HasMoment kept
    → All HasMoment new
moments_kept true old new kept is all one = subst (All HasMoment) (sym is) (All-push HasMoment old kept all one)
moments_kept false old new kept is all one = subst (All HasMoment) (sym is) all
