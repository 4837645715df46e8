use Rattle.std.proofs.Common.{◌∙◌, [], ap, arith, sym}
use Rattle.session_tables.specs.Inside.{with_names}
use Rattle.session_tables.proofs.EntryLemmas.{named_on, no_rows_left}
use Rattle.session_tables.proofs.entries.names_of.Goals as goal

pub loop-row-init : goal.loop-row-init
loop-row-init c = ap (with_names c.args.left.items) c.new-names.ensures

pub loop-row-preserved-in_ok-put_name : goal.loop-row-preserved-in_ok-put_name
loop-row-preserved-in_ok-put_name c =
    named_on c.loop-row.left.items c.pop.new.self.items c.in-Some.row c.loop-row.names c.put_name.new.names (with_names c.args.left.items [])
    c.in-Some.ensures.items c.in_ok-put_name.ensures c.loop-row.invariant

pub loop-row-preserved-in_ok-put_name-2 : goal.loop-row-preserved-in_ok-put_name-2
loop-row-preserved-in_ok-put_name-2 c =
    named_on c.loop-row.left.items c.pop.new.self.items c.in-Some.row c.loop-row.names c.put_name.new.names (with_names c.args.left.items [])
    c.in-Some.ensures.items c.in_ok-put_name.ensures c.loop-row.invariant

pub loop-row-preserved-in_ok-put_name-3 : goal.loop-row-preserved-in_ok-put_name-3
loop-row-preserved-in_ok-put_name-3 c =
    named_on c.loop-row.left.items c.pop.new.self.items c.in-Some.row c.loop-row.names c.put_name.new.names (with_names c.args.left.items [])
    c.in-Some.ensures.items c.in_ok-put_name.ensures c.loop-row.invariant

pub loop-row-preserved-in_ok-put_name-4 : goal.loop-row-preserved-in_ok-put_name-4
loop-row-preserved-in_ok-put_name-4 c =
    named_on c.loop-row.left.items c.pop.new.self.items c.in-Some.row c.loop-row.names c.put_name.new.names (with_names c.args.left.items [])
    c.in-Some.ensures.items c.in_ok-put_name.ensures c.loop-row.invariant

pub loop-row-preserved-in_ok-put_name-5 : goal.loop-row-preserved-in_ok-put_name-5
loop-row-preserved-in_ok-put_name-5 c =
    named_on c.loop-row.left.items c.pop.new.self.items c.in-Some.row c.loop-row.names c.put_name.new.names (with_names c.args.left.items [])
    c.in-Some.ensures.items c.in_ok-put_name.ensures c.loop-row.invariant

pub loop-row-preserved : goal.loop-row-preserved
loop-row-preserved c =
    named_on c.loop-row.left.items c.pop.new.self.items c.in-Some.row c.loop-row.names c.put_name.new.names (with_names c.args.left.items [])
    c.in-Some.ensures.items c.in_ok-put_name.ensures c.loop-row.invariant

pub returns : goal.returns
returns c =
    sym (no_rows_left c.loop-row.left.items c.loop-row.names (omega (arith, c.loop-row.left.ok.0, c.in_default.ensures.cases.0)))
    ∙ c.loop-row.invariant
