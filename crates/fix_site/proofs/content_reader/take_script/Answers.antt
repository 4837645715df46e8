use Rattle.std.proofs.Common.{◌≡◌, ◌∷◌, ◌++◌, [], ◌+◌, ◌-◌, ◌<◌, ℕ, List, length, ap, ◌∙◌, rules, arith, refl}
use Rattle.line_forms.specs.Contents as held
use Rattle.fix_site.specs.Readings.{FitsScript}
use Rattle.line_forms.proofs.Sequences.{taken_all, taken_more}
use Rattle.fix_site.proofs.ListLemmas.{fits_room, fits_script, room_left}
use Rattle.fix_site.proofs.content_reader.take_script.Goals as goal

pub loop-line-preserved : goal.loop-line-preserved
loop-line-preserved c =
    let items : List (List ℕ) = c.loop-line.script.items in
    let counted : c.len.result ≡ length items = search rules in
    let fits = fits_script items c.in-Some.line.now c.len.result c.loop-line.room c.in-Some.ensures.0 counted c.loop-line.invariant.room in
    let result_is = c.in_ok-push.ensures.items ∙ ap (λ (l : List ℕ). items ++ l ∷ []) c.in_ok-from_str.ensures in
    let taken = taken_more FitsScript held.content_line c.args.lines.now c.loop-line.lines c.take_script_line.new.lines items items c.push.new.self.items c.in-Some.line.now
    c.loop-line.invariant.good c.loop-line.invariant.passes refl result_is fits c.in-Some.ensures.1 in
    let below : length c.in-Some.line.now < c.loop-line.room = c.in-Some.ensures.0.short in
    record {
      good = taken.0;
      passes = taken.1;
      room = room_left items c.push.new.self.items c.in-Some.line.now c.loop-line.room (c.loop-line.room - (length c.in-Some.line.now + 1)) result_is c.loop-line.invariant.room (omega arith);
    }

pub returns : goal.returns
returns c =
    let items : List (List ℕ) = c.loop-line.script.items in
    let counted : c.len.result ≡ length items = search rules in
    taken_all FitsScript held.content_line c.args.lines.now c.loop-line.lines c.take_script_line.new.lines items items c.from_vec.result
    c.loop-line.invariant.good c.loop-line.invariant.passes refl c.from_vec.ensures c.in_default.ensures.0
    (λ line more fits e. c.in_default.ensures.1 line more (fits_room items line c.len.result c.loop-line.room fits counted c.loop-line.invariant.room) e)
