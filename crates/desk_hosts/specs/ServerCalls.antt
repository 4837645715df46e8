-- What a call does to a server and its keeper.
use Rattle.std.specs.Prelude.{◌≡◌, true, ℕ, List, None, Some}
use Rattle.std.specs.declared.option.Option.{Option}
use Rattle.desk_base.specs.Counts.{CountsFaults}
use Rattle.desk_keep.specs.Views.{KeeperView}
use Rattle.route_rules.specs.declared.method.Asking.{Asking}
use Rattle.route_rules.specs.declared.route.Route.{Route}
use Rattle.route_rules.specs.declared.route.Route.TheVariants as route
use Rattle.route_rules.specs.declared.route.Routes.TheVariants as routes
use Rattle.desk_http.specs.declared.host.Called.{Called}
use Rattle.server_text.specs.declared.request.Request.{Request}
use Rattle.server_text.specs.declared.request.Request.TheVariants as request
use Rattle.server_text.specs.declared.reply.Reply.{Reply}
use Rattle.server_text.specs.declared.reply.Reply.TheVariants as reply
use Rattle.server_text.specs.Entries.{Entry}
use Rattle.server_core.specs.declared.limits.Limits.{Limits}
use Rattle.server_core.specs.CallAnswers.{Answers, AreTables, TellsBad, is_fault}
use Rattle.http_replies.specs.declared.answer.Answer.{Answer}
use Rattle.http_replies.specs.declared.answer.Answer.TheVariants as answer
use Rattle.desk_hosts.specs.HostCalls.{CallsBy, no_such}

-- the limits of a server, and what its keeper tells
pub record ServerTells : Type 0 where
  pub limits : Limits
  pub keeper : KeeperView

-- what a route and a body ask of a server
abbrev pub request_of : Route → List ℕ → Request
request_of route.Publish body = request.Publish body
request_of route.Act body = request.Act body
request_of (route.Stop id) body = request.Stop id
request_of route.File body = request.File body
request_of route.AskSites body = request.AskSites
request_of (route.AskSite name version) body = request.AskSite name version
request_of (route.AskFile digest) body = request.AskFile digest
request_of route.Report body = request.Report body
request_of (route.Results computer) body = request.Results computer

-- A server of these limits replied so to a request. Where the rows are told and are the tables of what was accepted, the reply is the one
-- to this, and they are then the tables of what is accepted. What is told of the request's text doesn't rest on the rows. A fault and want
-- of memory leave them, and the count of faults rose exactly at a fault.
pub record RepliesTo (limits : Limits) (old : KeeperView) (asked : Request) (replied : Reply) (new : KeeperView) : Type 0 where
  pub answers : (accepted : List Entry) → AreTables old.rows accepted
      → (later : List Entry) × Answers limits accepted asked replied later × AreTables new.rows later
  pub bad : TellsBad asked replied
  pub unchanged : is_fault replied ≡ true → new.rows ≡ old.rows
  pub counts : CountsFaults (replied ≡ reply.KeeperFault) old.faults new.faults

-- the reply of the server is answered
abbrev pub AnswersRequest : ServerTells → Request → Answer → ServerTells → Type 0
AnswersRequest old asked it new =
    (replied : Reply) × (it ≡ answer.Reply replied) × RepliesTo old.limits old.keeper asked replied new.keeper
    × (new.limits ≡ old.limits)

-- What is answered to a route and a body, or to no route.
abbrev pub ServerAnswers : ServerTells → Option Route → List ℕ → Answer → ServerTells → Type 0
ServerAnswers old None body it new = (it ≡ no_such) × (new ≡ old)
ServerAnswers old (Some route) body it new = AnswersRequest old (request_of route body) it new

-- A call of a server.
abbrev pub ServerCalls : ServerTells → Asking → List ℕ → List ℕ → Called → ServerTells → Type 0
ServerCalls = CallsBy ServerAnswers routes.Server
