use Rattle.std.proofs.Common.{refl}
use Rattle.desk_top.specs.declared.command.DeskCommand.TheVariants.{QnaWorld, Check, Office}
use Rattle.desk_top.proofs.Endings.{text_comes, text_ended, usage_comes}
use Rattle.desk_top.proofs.AgentEndings.{agent_comes, agent_counts, agent_ended}
use Rattle.desk_top.proofs.RelayEndings.{relay_comes, relay_counts, relay_ended}
use Rattle.desk_top.proofs.SessionEndings.{session_comes, session_counts, session_ended}
use Rattle.desk_top.proofs.Serving.{serve_comes, serve_counts, serve_ended}
use Rattle.desk_top.proofs.top.desk.Goals as goal

pub returns-in-Done-clause-comes : goal.returns-in-Done-clause-comes
returns-in-Done-clause-comes g c = usage_comes _ _ _ c.in_default.ensures

pub returns-in-Ok-read_input-2-clause-ended : goal.returns-in-Ok-read_input-2-clause-ended
returns-in-Ok-read_input-2-clause-ended g c =
    let read = c.in-Ok-read_input-2.ensures.reads in
    text_ended QnaWorld _ c.ask_world.result _ _ _ _ _ refl (λ unwritten. (unwritten, refl, refl)) refl
    (record {
      text = tt;
      asked = rw c.in-QnaWorld.is at c.in-Some.ensures;
      taken = _;
      is = c.as_slice-in-Ok-read_input-2.ensures;
      all = record { takes = read.0; ends = read.1; short = read.2 };
      ends = c.ask_world.ensures.ends;
    })

pub returns-in-Ok-read_input-2-clause-comes : goal.returns-in-Ok-read_input-2-clause-comes
returns-in-Ok-read_input-2-clause-comes g c =
    let read = c.in-Ok-read_input-2.ensures.reads in
    text_comes QnaWorld _ c.ask_world.result _ _ _ _ _ _ _
    (record {
      text = tt;
      asked = rw c.in-QnaWorld.is at c.in-Some.ensures;
      taken = _;
      is = c.as_slice-in-Ok-read_input-2.ensures;
      all = record { takes = read.0; ends = read.1; short = read.2 };
      ends = c.ask_world.ensures.ends;
    })

pub returns-in-Ok-read_input-3-clause-ended : goal.returns-in-Ok-read_input-3-clause-ended
returns-in-Ok-read_input-3-clause-ended g c =
    let read = c.in-Ok-read_input-3.ensures.reads in
    text_ended Check _ c.check_input.result _ _ _ _ _ refl (λ unwritten. (unwritten, refl, refl)) refl
    (record {
      text = tt;
      asked = rw c.in-Check.is at c.in-Some.ensures;
      taken = _;
      is = c.as_slice-in-Ok-read_input-3.ensures;
      all = record { takes = read.0; ends = read.1; short = read.2 };
      ends = c.check_input.ensures.ends;
    })

pub returns-in-Ok-read_input-3-clause-comes : goal.returns-in-Ok-read_input-3-clause-comes
returns-in-Ok-read_input-3-clause-comes g c =
    let read = c.in-Ok-read_input-3.ensures.reads in
    text_comes Check _ c.check_input.result _ _ _ _ _ _ _
    (record {
      text = tt;
      asked = rw c.in-Check.is at c.in-Some.ensures;
      taken = _;
      is = c.as_slice-in-Ok-read_input-3.ensures;
      all = record { takes = read.0; ends = read.1; short = read.2 };
      ends = c.check_input.ensures.ends;
    })

pub returns-in-Ok-read_input-4-clause-ended : goal.returns-in-Ok-read_input-4-clause-ended
returns-in-Ok-read_input-4-clause-ended g c =
    let read = c.in-Ok-read_input-4.ensures.reads in
    text_ended Office _ c.play_input.result _ _ _ _ _ refl (λ unwritten. (unwritten, refl, refl)) refl
    (record {
      text = tt;
      asked = rw c.in-Office.is at c.in-Some.ensures;
      taken = _;
      is = c.as_slice-in-Ok-read_input-4.ensures;
      all = record { takes = read.0; ends = read.1; short = read.2 };
      ends = c.play_input.ensures.ends;
    })

pub returns-in-Ok-read_input-4-clause-comes : goal.returns-in-Ok-read_input-4-clause-comes
returns-in-Ok-read_input-4-clause-comes g c =
    let read = c.in-Ok-read_input-4.ensures.reads in
    text_comes Office _ c.play_input.result _ _ _ _ _ _ _
    (record {
      text = tt;
      asked = rw c.in-Office.is at c.in-Some.ensures;
      taken = _;
      is = c.as_slice-in-Ok-read_input-4.ensures;
      all = record { takes = read.0; ends = read.1; short = read.2 };
      ends = c.play_input.ensures.ends;
    })

pub returns-in-Serve-clause-ended : goal.returns-in-Serve-clause-ended
returns-in-Serve-clause-ended g c =
    serve_ended _ c.in-Serve.asked c.serve_asked.result _ _ _ _ (rw c.in-Serve.is at c.in-Some.ensures) refl (λ unwritten. (unwritten, refl, refl)) c.serve_asked.ensures.ends

pub returns-in-Serve-clause-comes : goal.returns-in-Serve-clause-comes
returns-in-Serve-clause-comes g c =
    serve_comes _ c.in-Serve.asked c.serve_asked.result _ _ _ _ _ _ (rw c.in-Serve.is at c.in-Some.ensures) c.serve_asked.ensures.ends

pub returns-in-Serve-clause-counts : goal.returns-in-Serve-clause-counts
returns-in-Serve-clause-counts g c =
    serve_counts c.in-Serve.asked c.serve_asked.result _ _ _ _ c.serve_asked.ensures.ends refl refl refl refl refl c.serve_asked.ensures.counts

pub returns-in-Relay-clause-ended : goal.returns-in-Relay-clause-ended
returns-in-Relay-clause-ended g c =
    relay_ended _ c.in-Relay.asked c.relay_asked.result _ _ _ _ (rw c.in-Relay.is at c.in-Some.ensures) refl (λ unwritten. (unwritten, refl, refl)) c.relay_asked.ensures.ends

pub returns-in-Relay-clause-comes : goal.returns-in-Relay-clause-comes
returns-in-Relay-clause-comes g c =
    relay_comes _ c.in-Relay.asked c.relay_asked.result _ _ _ _ _ _ (rw c.in-Relay.is at c.in-Some.ensures) c.relay_asked.ensures.ends

pub returns-in-Relay-clause-counts : goal.returns-in-Relay-clause-counts
returns-in-Relay-clause-counts g c =
    relay_counts c.in-Relay.asked c.relay_asked.result _ _ _ _ c.relay_asked.ensures.ends refl refl refl refl refl c.relay_asked.ensures.counts

pub relay_asked-requires : goal.relay_asked-requires
relay_asked-requires g c =
    let asks = rw c.in-Relay.is at c.in-Some.ensures in
    asks.0.room

pub returns-in-Agent-clause-ended : goal.returns-in-Agent-clause-ended
returns-in-Agent-clause-ended g c =
    agent_ended _ c.in-Agent.asked c.agent_asked.result _ _ _ (rw c.in-Agent.is at c.in-Some.ensures) refl refl c.agent_asked.ensures.ends

pub returns-in-Agent-clause-comes : goal.returns-in-Agent-clause-comes
returns-in-Agent-clause-comes g c =
    agent_comes c.lines_are_read_again.ensures.lines c.lines_are_read_again.ensures.unended _ c.in-Agent.asked c.agent_asked.result _ _ _ _ _ (rw c.in-Agent.is at c.in-Some.ensures) c.agent_asked.ensures.ends

pub returns-in-Agent-clause-counts : goal.returns-in-Agent-clause-counts
returns-in-Agent-clause-counts g c =
    agent_counts c.in-Agent.asked c.agent_asked.result _ _ _ _ c.agent_asked.ensures.ends refl refl refl c.agent_asked.ensures.counts

pub agent_asked-requires-clause-name : goal.agent_asked-requires-clause-name
agent_asked-requires-clause-name g c =
    let asks = rw c.in-Agent.is at c.in-Some.ensures in
    asks.0.places.is_name

pub agent_asked-requires-clause-offset : goal.agent_asked-requires-clause-offset
agent_asked-requires-clause-offset g c =
    let asks = rw c.in-Agent.is at c.in-Some.ensures in
    asks.0.offset

pub returns-in-Ok-read_input-5-clause-ended : goal.returns-in-Ok-read_input-5-clause-ended
returns-in-Ok-read_input-5-clause-ended g c =
    let read = c.in-Ok-read_input-5.ensures.reads in
    session_ended _ c.in-Session.asked c.session_asked.result _ _ _ _ _ (λ unwritten. (unwritten.0, refl, unwritten.1)) refl
    (record {
      asks = rw c.in-Session.is at c.in-Some.ensures;
      taken = _;
      is = c.as_slice-in-Ok-read_input-5.ensures;
      all = record { takes = read.0; ends = read.1; short = read.2 };
      ends = c.session_asked.ensures.ends;
    })

pub returns-in-Ok-read_input-5-clause-comes : goal.returns-in-Ok-read_input-5-clause-comes
returns-in-Ok-read_input-5-clause-comes g c =
    let read = c.in-Ok-read_input-5.ensures.reads in
    session_comes _ c.in-Session.asked c.session_asked.result _ _ _ _ _ _ _
    (record {
      asks = rw c.in-Session.is at c.in-Some.ensures;
      taken = _;
      is = c.as_slice-in-Ok-read_input-5.ensures;
      all = record { takes = read.0; ends = read.1; short = read.2 };
      ends = c.session_asked.ensures.ends;
    })

pub returns-in-Ok-read_input-5-clause-counts : goal.returns-in-Ok-read_input-5-clause-counts
returns-in-Ok-read_input-5-clause-counts g c =
    session_counts c.session_asked.result _ _ _ _ c.session_asked.ensures.ends (c.in-Ok-read_input-5.ensures.counts.steady (λ e. cc)) refl refl refl refl
    c.session_asked.ensures.counts
