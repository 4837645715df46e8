use Rattle.std.proofs.Common.{ℕ, List, drop, length, map, sym, ap, subst, ◌∙◌, arith}
use Rattle.std.specs.Prelude.{flat_map}
use Rattle.desk_base.specs.Rooms.{Fills, HasRoom}
use Rattle.agent_text.specs.declared.history.History.{History}
use Rattle.agent_text.specs.Histories.{PlainHistory, shown_history}
use Rattle.agent_text.specs.HistoryLines.{history_text}
use Rattle.agent_text.specs.MadeTexts.{PlainMade}
use Rattle.agent_text.specs.MostBytes.{history_bytes}
use Rattle.agent_text.proofs.FillLemmas.{filled_length, fills_then}
use Rattle.agent_text.proofs.MadeLemmas.{made_long, made_parts, rest_shown}
use Rattle.agent_text.proofs.room_writer.fill_kept.Goals as goal

pub extend-requires : goal.extend-requires
extend-requires c =
    let hs : List PlainHistory = map shown_history c.args.histories.list.now in
    omega (arith, c.requires.room, made_long history_text history_bytes hs c.args.histories.made.now c.requires.kept.made, ap (length {A = ℕ}) c.text.ensures)

pub fill_histories-requires-clause-room : goal.fill_histories-requires-clause-room
fill_histories-requires-clause-room c =
    let items : List History = c.args.histories.list.now in
    let hs : List PlainHistory = map shown_history items in
    let made : PlainMade = c.args.histories.made.now in
    let filled = filled_length c.text.result.now c.args.room.now c.extend.new.self c.extend.ensures in
    let rest = rest_shown shown_history items c.count.result ∙ ap (λ n. drop n hs) c.count.ensures in
    subst (λ (l : List PlainHistory). HasRoom c.extend.new.self (length (flat_map history_text l))) (sym rest)
    (omega (arith, c.requires.room, made_long history_text history_bytes hs made c.requires.kept.made, ap (length {A = ℕ}) c.text.ensures, filled, c.extend.ensures.1))

pub returns : goal.returns
returns c =
    let items : List History = c.args.histories.list.now in
    let hs : List PlainHistory = map shown_history items in
    let made : PlainMade = c.args.histories.made.now in
    let others = flat_map history_text (drop made.count hs) in
    let rest = rest_shown shown_history items c.count.result ∙ ap (λ n. drop n hs) c.count.ensures in
    let front : Fills c.args.room.now c.extend.new.self made.text = subst (λ t. Fills c.args.room.now c.extend.new.self t) c.text.ensures c.extend.ensures in
    let behind : Fills c.extend.new.self c.fill_histories.new.room others = subst (λ (l : List PlainHistory). Fills c.extend.new.self c.fill_histories.new.room (flat_map history_text l)) rest c.fill_histories.ensures in
    subst (λ t. Fills c.args.room.now c.fill_histories.new.room t) (sym (made_parts history_text history_bytes hs made c.requires.kept.made))
    (fills_then made.text others c.args.room.now c.extend.new.self c.fill_histories.new.room front behind)
