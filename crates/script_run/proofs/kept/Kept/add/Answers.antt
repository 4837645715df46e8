use Rattle.std.proofs.Common.{rules, ◌≡◌, [], ◌∷◌, ◌++◌, true, false, ap, ◌∙◌}
use Rattle.std.specs.Prelude.{string_bytes}
use Rattle.std.proofs.lemmas.Map.Text.{btree_set_updates_text}
use Rattle.rel_sources.specs.Scenes.{value_of}
use Rattle.rel_sources.specs.declared.pair.Pair.{Pair}
use Rattle.script_run.specs.declared.kept.Kept.{Kept}
use Rattle.script_run.proofs.Naming.{names_more, names_back}
use Rattle.script_run.proofs.kept.Kept.add.Goals as goal

pub invariant_of-self-inside-then-is_err : goal.invariant_of-self-inside-then-is_err
invariant_of-self-inside-then-is_err c =
    let old = c.self.inside.0.1.0 in
    let parameters = c.self.inside.0.0.parameters in
    let key = string_bytes c.in_ok-from_str.field-0 in
    let out = c.as_str-then-is_err.result.now in
    let new_name = ap (λ (kept : Kept). value_of c.args.name kept.scene.parameters) c.self.view_is ∙ c.requires in
    let same : c.push.new.self ≡ parameters = search rules in
    record {
      named = names_back old c.insert.new.self c.remove.new.self parameters c.push.new.self c.args.name key out new_name same
          (c.in_ok-from_str.ensures.ok ∙ c.as_str.ensures) (c.as_str-then-is_err.ensures ∙ c.in_ok-kept.ensures)
          (btree_set_updates_text key old c.insert.new.self true c.in_ok-insert.ensures.updates)
          (btree_set_updates_text out c.insert.new.self c.remove.new.self false c.remove.ensures.updates) c.self.inside.1.0;
    }

pub invariant_of-self-inside-else-is_err : goal.invariant_of-self-inside-else-is_err
invariant_of-self-inside-else-is_err c =
    let old = c.self.inside.0.1.0 in
    let parameters = c.self.inside.0.0.parameters in
    let key = string_bytes c.in_ok-from_str.field-0 in
    let p : Pair = record { name = c.args.name; value = c.args.value } in
    let more : c.push.new.self ≡ parameters ++ p ∷ [] = search rules in
    record {
      named = names_more old c.insert.new.self parameters c.push.new.self p key (c.in_ok-from_str.ensures.ok ∙ c.as_str.ensures) more
          (btree_set_updates_text key old c.insert.new.self true c.in_ok-insert.ensures.updates) c.self.inside.1.0;
    }
