use Rattle.std.proofs.Common.{◌≡◌, List, ℕ, [], ◌∷◌, ◌++◌, length, arith, refl, sym, ap, subst, ◌∙◌}
use Rattle.std.specs.Prelude.{Err, IsErrOf}
use Rattle.std.proofs.lemmas.Result.{err_from_is_err_and}
use Rattle.std.specs.Vec.Iter.{into_iter_items}
use Rattle.desk_base.specs.Counts.{CountsFaults}
use Rattle.office_text.specs.declared.order.Order.{Order}
use Rattle.office_play.specs.declared.play.PlayEnd.TheVariants as end
use Rattle.office_play.specs.Kept.{KeptOffice}
use Rattle.office_play.specs.States.{kept_of}
use Rattle.office_play.proofs.Knowing.{known}
use Rattle.office_play.proofs.Playing.{SoFar, all_done, begins, ends_by, goes_on, stops_by}
use Rattle.office_play.proofs.play.play_all.Goals as goal

pub loop-order-init : goal.loop-order-init
loop-order-init g c =
    let held = (g.W.Sink.told c.args.sink.now).held in
    let items : into_iter_items c.into_iter-order-iterator.result ≡ c.args.orders = c.into_iter-order-iterator.ensures.into_iter_gives.0 ∙ c.into_vec-order-items.ensures in
    let own = c.into_iter-order-iterator.ensures.into_iter_gives.1 in
    let counted = c.into_vec-order-items.result.ok.0 in
    let same = ap length c.into_iter-order-iterator.ensures.into_iter_gives.0 in (
      subst (λ (l : List Order). SoFar c.args.orders [] l (kept_of c.args.office.now) held held) (sym items)
          (subst (λ (o : KeptOffice). SoFar c.args.orders [] c.args.orders o held held) (sym c.requires.office) (begins c.args.orders held)),
      refl,
      omega (arith, own, counted, same),
    )

pub play_order-requires : goal.play_order-requires
play_order-requires g c =
    let at = c.loop-order in
    let s = at.invariant.0 in
    let rest = into_iter_items c.next.new.self in
    let parts : c.args.orders ≡ at.yielded ++ c.in-Some.order ∷ rest = s.parts ∙ ap (λ l. at.yielded ++ l) c.in-Some.ensures.steps.0 in
    let can = c.requires.orders at.yielded rest c.in-Some.order parts in
    record {
      good = s.good;
      accepted = (s.accepted, s.rows);
      order = can.form;
      names = known at.yielded (kept_of at.office) c.in-Some.order s.relays s.computers can.names;
    }

pub loop-order-preserved : goal.loop-order-preserved
loop-order-preserved g c =
    let at = c.loop-order in
    let was = at.invariant.2 in
    let gone = c.in-Some.ensures.steps.1 in
    let steps = c.in-Some.ensures.steps.0 in
    let short = ap length steps in
    let start = (g.W.Sink.told c.args.sink.now).held in
    let held = (g.W.Sink.told at.sink).held in
    let then = (g.W.Sink.told c.play_order.new.sink).held in
    let rest = into_iter_items c.next.new.self in
    let s = subst (λ (l : List Order). SoFar c.args.orders at.yielded l (kept_of at.office) start held) steps at.invariant.0 in
    let wrote = c.in_ok-play_order.ensures.plays s.accepted s.rows in (
      goes_on c.args.orders at.yielded rest c.in-Some.order (kept_of at.office) (kept_of c.play_order.new.office) start held then wrote.0 s wrote.1 wrote.2
          c.in_ok-play_order.ensures.names,
      c.in_ok-play_order.ensures.counts.steady (λ e. absurd cc) ∙ at.invariant.1,
      omega (arith, was, gone, short),
    )

pub returns-in_err-play_order : goal.returns-in_err-play_order
returns-in_err-play_order g c =
    let at = c.loop-order in
    let start = (g.W.Sink.told c.args.sink.now).held in
    let held = (g.W.Sink.told at.sink).held in
    let then = (g.W.Sink.told c.play_order.new.sink).held in
    let rest = into_iter_items c.next.new.self in
    let s = subst (λ (l : List Order). SoFar c.args.orders at.yielded l (kept_of at.office) start held) c.in-Some.ensures.steps.0 at.invariant.0 in
    let p = err_from_is_err_and c.from_residual.result c.from_residual.ensures.1 in
    rw (p.1, p.2) (record {
      writes = stops_by c.args.orders at.yielded rest c.in-Some.order (kept_of at.office) (kept_of c.play_order.new.office) start held then c.in_err-play_order.field-0.0 s
          (c.in_err-play_order.ensures.plays s.accepted s.rows) (λ e. c.in_err-play_order.ensures.never (ap Err e));
      counts = subst (λ (n : ℕ). CountsFaults (IsErrOf {T = Unit {0}} (Err c.in_err-play_order.field-0.0) end.Failed) n (g.W.Sink.told c.play_order.new.sink).faults) at.invariant.1
          c.in_err-play_order.ensures.counts;
      never = c.in_err-play_order.ensures.never;
    })

pub returns : goal.returns
returns g c =
    let at = c.loop-order in
    let start = (g.W.Sink.told c.args.sink.now).held in
    let held = (g.W.Sink.told at.sink).held in
    let then = (g.W.Sink.told c.play_end.new.sink).held in
    let rest = into_iter_items at.order-iterator in
    let none : length rest ≡ 0 = sym at.invariant.2 ∙ c.in-None.ensures.steps.0 in
    let s = all_done c.args.orders at.yielded rest (kept_of at.office) start held at.invariant.0 none in
    record {
      writes = ends_by c.args.orders at.yielded (kept_of at.office) start held then c.play_end.result s (c.play_end.ensures.writes s.accepted s.rows) c.play_end.ensures.never;
      counts = subst (λ (n : ℕ). CountsFaults (IsErrOf c.play_end.result end.Failed) n (g.W.Sink.told c.play_end.new.sink).faults) at.invariant.1 c.play_end.ensures.counts;
      never = c.play_end.ensures.never;
    }
