-- Runs of a relay grow by a conversation and a round, and end at a broken step.
use Rattle.std.proofs.Common.{◌<◌, ℕ, ◌+◌, List, ◌++◌, Result, Ok, Err, inr, refl, ap}
use Rattle.std.proofs.KnownBytes.{Appends-trans}
use Rattle.desk_base.specs.declared.sink.Put.TheVariants as put
use Rattle.desk_http.specs.declared.talk.Met.{Met}
use Rattle.desk_rounds.specs.Lines.{Line, lines_text}
use Rattle.desk_serve.specs.declared.step.Stop.{Stop}
use Rattle.desk_serve.specs.TalkLines.{talk_line}
use Rattle.desk_runs.specs.RelayRuns.{Begun, GoesNext, HasRelayed, RelayRun, RelaysAll, RoundsNext, TellsBoth, Then, Goes, said}
use Rattle.desk_runs.specs.RelaySteps.{RelayScene, TellsTalk}

-- behind a whole conversation comes a round
pub goes_next : (old mid new : RelayScene) (result : Result Unit Stop) (ended : Met) → TellsTalk old put.Done ended mid → RoundsNext mid result new → GoesNext old result new
goes_next old mid new (Ok u) ended talk (lines, tells) = (ended, lines, (mid, talk, tells))
goes_next old mid new (Err stop) ended talk breaks = inr (ended, mid, talk, breaks)

goes_then : (old mid new : RelayScene) (run : RelayRun) (ended : Met) (lines : List Line) → Goes old run mid → TellsBoth mid ended lines new → Goes old (Then run ended lines) new
goes_then old mid new run ended lines goes (between, talk, round) = record {
  runs = (mid, goes.runs, (between, talk, round));
  lines = Appends-trans old.sink.held mid.sink.held new.sink.held (said run) (talk_line ended ++ lines_text lines) goes.lines
      (Appends-trans mid.sink.held between.sink.held new.sink.held (talk_line ended) (lines_text lines) talk.writes.puts round.writes.puts);
}

pub relayed_first : (old new : RelayScene) (u : Unit) → RoundsNext old (Ok u) new → HasRelayed old 0 new
relayed_first old new u (lines, tells) = (Begun lines, refl, record { runs = tells; lines = tells.writes.puts })

pub relayed_more : (count : ℕ) (old mid new : RelayScene) (u : Unit) → HasRelayed old count mid → GoesNext mid (Ok u) new → HasRelayed old (count + 1) new
relayed_more count old mid new u (run, is, goes) (ended, lines, both) =
    (Then run ended lines, ap (λ n. n + 1) is, goes_then old mid new run ended lines goes both)

pub relayed_cut : (count done : ℕ) (old mid new : RelayScene) (stop : Stop) → done < count → HasRelayed old done mid → GoesNext mid (Err stop) new → RelaysAll old count (Err stop) new
relayed_cut count done old mid new stop below relayed broken = inr (done, below, mid, relayed, broken)
