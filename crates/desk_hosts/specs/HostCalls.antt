-- What the call of a host is, by what it answers to each route.
use Rattle.std.specs.Prelude.{◌≡◌, ◌⊎◌, ℕ, List}
use Rattle.std.specs.declared.option.Option.{Option}
use Rattle.route_rules.specs.declared.method.Asking.{Asking}
use Rattle.route_rules.specs.declared.route.Route.{Route}
use Rattle.route_rules.specs.declared.route.Routes.{Routes}
use Rattle.route_rules.specs.Routes.{FindsRoute, method_word}
use Rattle.desk_http.specs.declared.host.Called.{Called}
use Rattle.desk_http.specs.declared.host.Called.TheVariants as called
use Rattle.server_text.specs.declared.reply.Reply.TheVariants as reply
use Rattle.http_replies.specs.declared.answer.Answer.{Answer}
use Rattle.http_replies.specs.declared.answer.Answer.TheVariants as answer
use Rattle.http_replies.specs.Statuses.{IsCalled}

-- the answer where what is asked for isn't there, or where there is no route
abbrev pub no_such : Answer
no_such = answer.Reply reply.NoSuch

-- the answer at want of memory
abbrev pub no_memory : Answer
no_memory = answer.Reply reply.Memory

module _ {Told : Type 0} (answers : Told → Option Route → List ℕ → Answer → Told → Type 0) where
  -- this is answered to what the method and the path ask for, by a route or by none, and the host gives it
  abbrev pub AnswersCall : Routes → Told → Asking → List ℕ → List ℕ → Called → Told → Type 0
  AnswersCall routes old asking path body it new =
      (route : Option Route) × (answer : Answer) × FindsRoute routes (method_word asking) path route
      × answers old route body answer new × IsCalled answer it

  -- A call. Want of memory may come before anything is done.
  abbrev pub CallsBy : Routes → Told → Asking → List ℕ → List ℕ → Called → Told → Type 0
  CallsBy routes old asking path body it new =
      ((it ≡ called.Memory) × (new ≡ old)) ⊎ AnswersCall routes old asking path body it new
