use Rattle.std.proofs.Common.{rules, ◌≡◌, ◌+◌, [], ◌∷◌, ◌++◌, take, true, ◌∙◌}
use Rattle.std.specs.Prelude.{string_bytes}
use Rattle.std.proofs.lemmas.List.{take_more}
use Rattle.std.proofs.lemmas.Map.Text.{btree_set_updates_text}
use Rattle.script_run.proofs.Naming.{names_more}
use Rattle.script_run.proofs.kept.names_of.Goals as goal

pub loop-pair-preserved : goal.loop-pair-preserved
loop-pair-preserved c =
    let items = c.as_slice-pair-items.result.now in
    let i = c.loop-pair.pair-index in
    let key = string_bytes c.in_ok-from_str.field-0 in
    let more : take (i + 1) items ≡ take i items ++ c.pair-item.result ∷ [] = search (rules, take_more) in
    names_more c.loop-pair.names c.insert.new.self (take i items) (take (i + 1) items) c.pair-item.result key (c.in_ok-from_str.ensures.ok ∙ c.as_str.ensures) more
    (btree_set_updates_text key c.loop-pair.names c.insert.new.self true c.in_ok-insert.ensures.updates) c.loop-pair.invariant
