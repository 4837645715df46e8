use Rattle.std.proofs.Common.{arith}
use Rattle.rel_grammar.specs.Holding.{shown_held}
use Rattle.session_words.proofs.Deepness.{deep_as_is, deep_with_room, deep_without_room}
use Rattle.session_words.proofs.depth.place_if_deep.Goals as goal

pub returns-then-room-gt0 : goal.returns-then-room-gt0
returns-then-room-gt0 c = deep_with_room c.args.room c.args.place c.args.words.now (shown_held c.args.object.now) c.if-room-gt0.true

pub returns-then-not-adds_folder : goal.returns-then-not-adds_folder
returns-then-not-adds_folder c =
    deep_as_is c.args.room c.args.place c.args.words.now (shown_held c.args.object.now) c.adds_folder.result c.adds_folder.ensures c.if-not-adds_folder.true

pub returns : goal.returns
returns c =
    deep_without_room c.args.room c.args.place c.args.words.now (shown_held c.args.object.now) c.adds_folder.result (omega (arith, c.if-room-gt0.false))
    c.adds_folder.ensures c.if-not-adds_folder.false
