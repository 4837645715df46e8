-- Runs grow by whole conversations, and end at a broken step.
use Rattle.std.proofs.Common.{◌<◌, ℕ, ◌+◌, Ok, Err, refl, ap}
use Rattle.std.proofs.KnownBytes.{Appends-nil, Appends-trans}
use Rattle.desk_http.specs.declared.talk.Met.{Met}
use Rattle.server_core.specs.declared.limits.Limits.{Limits}
use Rattle.desk_serve.specs.declared.step.Stop.{Stop}
use Rattle.desk_serve.specs.TalkLines.{talk_line}
use Rattle.desk_serve.specs.ServeSteps.{Scene, Serves, ServesNext}
use Rattle.desk_serve.specs.ServeRuns.{Run, Begun, Then, said, Goes, HasServed, ServesAll}

goes_then : (limits : Limits) (old mid new : Scene) (run : Run) (ended : Met) → Goes limits old run mid → Serves limits mid ended new → Goes limits old (Then run ended) new
goes_then limits old mid new run ended goes serves = record {
  runs = (mid, goes.runs, serves);
  lines = Appends-trans old.sink.held mid.sink.held new.sink.held (said run) (talk_line ended) goes.lines serves.line;
}

pub served_none : (limits : Limits) (old : Scene) → HasServed limits old 0 old
served_none limits old = (Begun, refl, record { runs = refl; lines = Appends-nil old.sink.held })

pub served_more : (limits : Limits) (count : ℕ) (old mid new : Scene) (u : Unit) → HasServed limits old count mid → ServesNext limits mid (Ok u) new → HasServed limits old (count + 1) new
served_more limits count old mid new u (run, is, goes) (ended, serves) =
    (Then run ended, ap (λ n. n + 1) is, goes_then limits old mid new run ended goes serves)

pub served_cut : (limits : Limits) (count done : ℕ) (old mid new : Scene) (stop : Stop) → done < count → HasServed limits old done mid → ServesNext limits mid (Err stop) new → ServesAll limits old count (Err stop) new
served_cut limits count done old mid new stop below served broken = (done, below, mid, served, broken)
