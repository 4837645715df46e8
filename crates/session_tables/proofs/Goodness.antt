-- What a look answers is a good answer, whether the rows are told or not.
use Rattle.std.proofs.Common.{[], ◌∷◌, Option, None, Some, refl, arith}
use Rattle.std.specs.List.Sorted.{IsStrictlySortedBy}
use Rattle.std.specs.Option.{IfSome}
use Rattle.std.specs.Str.Parse.{digits_value}
use Rattle.std.proofs.lemmas.Int.{ints}
use Rattle.std.proofs.lemmas.List.Elements.{All-nil, All-cons}
use Rattle.line_forms.specs.Versions.{IsVersion, IsVersionNumber}
use Rattle.bf_world.specs.declared.answer.Answer.TheVariants as answer
use Rattle.bf_world.specs.declared.parts.Node.{Node}
use Rattle.bf_world.specs.declared.parts.Node.TheVariants.{Folder, File}
use Rattle.bf_world.specs.Answers.{HasAscendingNames, IsGoodAnswer}
use Rattle.bf_world.specs.Shown.{read_of, stat_of}
use Rattle.bf_world.specs.Sound.{IsSoundNode}

-- ---- what every answer is
pub stat_good : (node : Option Node) → IfSome node IsSoundNode → IsGoodAnswer (stat_of node)
stat_good None is = tt
stat_good (Some Folder) is = tt
stat_good (Some (File content modified)) is = (omega (arith, ints), is)

pub stat_ascends : (node : Option Node) → HasAscendingNames (stat_of node)
stat_ascends None = tt
stat_ascends (Some Folder) = tt
stat_ascends (Some (File content modified)) = tt

pub read_good : (node : Option Node) → IsGoodAnswer (read_of node)
read_good None = tt
read_good (Some Folder) = tt
read_good (Some (File content modified)) = tt

pub read_ascends : (node : Option Node) → HasAscendingNames (read_of node)
read_ascends None = tt
read_ascends (Some Folder) = tt
read_ascends (Some (File content modified)) = tt

-- ---- lists of nothing
pub no_names_ascend : HasAscendingNames (answer.Names [])
unfolding IsStrictlySortedBy
no_names_ascend = tt

pub no_packages_ascend : HasAscendingNames (answer.Packages [])
unfolding IsStrictlySortedBy
no_packages_ascend = tt

pub no_settings_ascend : HasAscendingNames (answer.Settings [])
unfolding IsStrictlySortedBy
no_settings_ascend = tt

-- ---- the version of the system
version_number : IsVersionNumber (49 ∷ [])
version_number = ((omega arith, (omega arith, tt)), omega arith)

pub version_one : IsVersion (49 ∷ [])
version_one =
    (digits_value 10 (49 ∷ []) ∷ [], ((49 ∷ []) ∷ [], omega arith, omega arith, All-cons IsVersionNumber (49 ∷ []) [] version_number (All-nil IsVersionNumber), refl, refl))
