use Rattle.line_forms.specs.Paths.{IsPart}
use Rattle.line_forms.proofs.Pieces.{joined_from_pieces, pieces_from_joined}
use Rattle.line_forms.proofs.PathLemmas.{part-lacks, parts-root}
use Rattle.line_forms.proofs.path.a_path_is_its_parts.Goals as goal

pub returns-clause-parts : goal.returns-clause-parts
returns-clause-parts c = λ text. (pieces_from_joined 47 IsPart part-lacks text, joined_from_pieces 47 IsPart text)

pub returns-clause-rootless : goal.returns-clause-rootless
returns-clause-rootless c = parts-root
