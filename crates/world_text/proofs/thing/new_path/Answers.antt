use Rattle.world_text.proofs.PathLemmas.{folder_there, file_there, new_path_is}
use Rattle.world_text.proofs.thing.new_path.Goals as goal

pub returns-then-is_folder : goal.returns-then-is_folder
returns-then-is_folder c = λ h.
    folder_there c.args.world.now c.args.text.now c.in-Some.path.now c.is_folder.result c.in-Some.ensures.1 c.is_folder.ensures c.if-is_folder.true h

pub returns-then-is_file : goal.returns-then-is_file
returns-then-is_file c = λ h.
    file_there c.args.world.now c.args.text.now c.in-Some.path.now c.is_file.result c.in-Some.ensures.1 c.is_file.ensures c.if-is_file.true h

pub returns : goal.returns
returns c = (
  new_path_is c.args.world.now c.args.text.now c.in-Some.path.now c.is_folder.result c.is_file.result c.has_parent.result c.in-Some.ensures.1 c.in-Some.ensures.0 c.is_folder.ensures c.if-is_folder.false c.is_file.ensures c.if-is_file.false
      c.has_parent.ensures c.if-not-has_parent.false,
  c.in-Some.ensures.1,
)
