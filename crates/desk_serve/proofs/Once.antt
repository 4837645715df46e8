-- What is served is one thing, where nothing failed and all is told.
use Rattle.std.proofs.Common.{◌≡◌, ◌≢◌, ◌<◌, ◌-◌, ◌^◌, ℕ, List, [], ◌∷◌, ◌++◌, length, Bool, None, Some, inl, inr, refl, sym, ap, ◌∙◌, subst, arith, length-append}
use Rattle.std.specs.declared.option.Option.{Option}
use Rattle.std.specs.Io.KnownBytes.{Appends, IsAtEnd}
use Rattle.desk_base.specs.Counts.{Rose}
use Rattle.bf_machine.proofs.Telling.{RoseBy-later, later-RoseBy}
use Rattle.desk_door.specs.Doors.{DoorView, Comes, earlier, here}
use Rattle.desk_door.specs.Lists.{with_first}
use Rattle.desk_keep.specs.Views.{KeeperView}
use Rattle.route_rules.specs.declared.method.Asking.{Asking}
use Rattle.route_rules.specs.declared.route.Route.{Route}
use Rattle.route_rules.specs.declared.route.Routes.{Routes}
use Rattle.route_rules.specs.declared.route.Routes.TheVariants as of_routes
use Rattle.route_rules.specs.Routes.{FindsRoute, method_word}
use Rattle.desk_http.specs.declared.host.Called.TheVariants as called
use Rattle.desk_http.specs.declared.talk.Met.{Met}
use Rattle.desk_http.specs.declared.talk.Met.TheVariants as met
use Rattle.desk_http.specs.Conversing.{IsHeard, OnlyTalks, Responds, Says}
use Rattle.desk_http.specs.Heard.{Heard, Hears, Call, Refused}
use Rattle.desk_http.specs.Spoken.{spoken}
use Rattle.server_text.specs.declared.request.Request.{Request}
use Rattle.server_text.specs.declared.reply.Reply.{Reply}
use Rattle.server_text.specs.declared.reply.Reply.TheVariants as of_reply
use Rattle.server_text.specs.Entries.{Asked, Entry}
use Rattle.server_text.specs.RequestTexts.{Asks}
use Rattle.http_replies.specs.declared.answer.Answer.{Answer}
use Rattle.http_replies.specs.declared.answer.Answer.TheVariants as answer
use Rattle.http_replies.specs.Statuses.{IsCalled, answer_body, answer_status}
use Rattle.server_core.specs.declared.limits.Limits.{Limits}
use Rattle.server_core.specs.AcceptedTables.{view}
use Rattle.server_core.specs.CallAnswers.{Answers, AreTables, after}
use Rattle.server_core.specs.Replies.{reply}
use Rattle.desk_hosts.specs.ServerCalls.{ServerAnswers, ServerCalls, ServerTells, request_of}
use Rattle.desk_serve.proofs.Counting.{KeeperCounted, ServerTalks, talk_door_later, talk_keeper, talks_counted}
use Rattle.desk_serve.specs.OneServing.{IsSteady, LeaveAlike, TellsScene}
use Rattle.desk_serve.specs.ServeCounts.{ended_so, is_answered, is_door_fault}
use Rattle.desk_serve.specs.ServeRuns.{Run, Begun, Then, Runs, talk_count}
use Rattle.desk_serve.specs.ServeSteps.{Scene, Talks, server_of}

-- the laws that this stands on
pub record Laws : Type 0 where
  pub route : (routes : Routes) (method path : List ℕ) (found other : Option Route) → FindsRoute routes method path found → FindsRoute routes method path other → found ≡ other
  pub heard : (routes : Routes) (bytes : List ℕ) (heard other : Heard) (most least : ℕ) → Hears routes bytes heard most → Hears routes bytes other least → (heard ≡ other) × (most ≡ least)
  pub meaning : (request : Request) (asked other : Asked) → Asks request asked → Asks request other → asked ≡ other
  pub keeper : KeeperCounted

-- a server over this keeper
abbrev over : Limits → KeeperView → ServerTells
over limits keeper = record { limits = limits; keeper = keeper }

-- both keepers have the same tables
abbrev SameTables : KeeperView → KeeperView → Type 0
SameTables one other = (later : List Entry) × AreTables one.rows later × AreTables other.rows later

-- the count didn't rise
abbrev NoFault : ℕ → ℕ → Type 0
NoFault old new = Rose old new → ⊥

-- ---- one reply

-- a reply to what was asked
abbrev RepliesAsked : Limits → List Entry → Request → Reply → List Entry → Type 0
RepliesAsked limits accepted request replied later = (asked : Asked) × Asks request asked × (replied ≡ reply accepted limits asked) × (later ≡ after accepted limits asked)

plain : (limits : Limits) (accepted : List Entry) (request : Request) (replied : Reply) (later : List Entry) → replied ≢ of_reply.KeeperFault → replied ≢ of_reply.Memory
    → Answers limits accepted request replied later → RepliesAsked limits accepted request replied later
plain limits accepted request of_reply.Ok later no_fault no_memory answers = answers
plain limits accepted request of_reply.Again later no_fault no_memory answers = answers
plain limits accepted request (of_reply.Digest digest) later no_fault no_memory answers = answers
plain limits accepted request (of_reply.Sites sites) later no_fault no_memory answers = answers
plain limits accepted request (of_reply.Site text) later no_fault no_memory answers = answers
plain limits accepted request of_reply.Same later no_fault no_memory answers = answers
plain limits accepted request (of_reply.Content bytes) later no_fault no_memory answers = answers
plain limits accepted request (of_reply.Rows rows) later no_fault no_memory answers = answers
plain limits accepted request (of_reply.BadText line) later no_fault no_memory answers = answers
plain limits accepted request (of_reply.Conflict digest) later no_fault no_memory answers = answers
plain limits accepted request of_reply.NoSuch later no_fault no_memory answers = answers
plain limits accepted request (of_reply.Older version) later no_fault no_memory answers = answers
plain limits accepted request (of_reply.Full limit) later no_fault no_memory answers = answers
plain limits accepted request of_reply.KeeperFault later no_fault no_memory answers = absurd (no_fault refl)
plain limits accepted request of_reply.Memory later no_fault no_memory answers = absurd (no_memory refl)

replied_once : Laws → (limits : Limits) (accepted : List Entry) (request : Request) (one other : Reply) (later last : List Entry)
    → RepliesAsked limits accepted request one later → RepliesAsked limits accepted request other last → (one ≡ other) × (later ≡ last)
replied_once laws limits accepted request one other later last (asked, asks, is, leaves) (asked', asks', is', leaves') =
    let same = laws.meaning request asked asked' asks asks' in
    (is ∙ ap (reply accepted limits) same ∙ sym is', leaves ∙ ap (after accepted limits) same ∙ sym leaves')

-- ---- one answer to a call

-- what is answered is the same, and so are the tables then
abbrev SameAnswer : ℕ → ℕ → List ℕ → List ℕ → KeeperView → KeeperView → Type 0
SameAnswer status status' text text' one other = (status ≡ status') × (text ≡ text') × SameTables one other

same_called : (a b : Answer) (status status' : ℕ) (text text' : List ℕ) → a ≡ b → IsCalled a (called.Answer status text) → IsCalled b (called.Answer status' text') → (status ≡ status') × (text ≡ text')
same_called a b status status' text text' same is is' = (is.1 ∙ ap answer_status same ∙ sym is'.1, is.2 ∙ ap answer_body same ∙ sym is'.2)

kept_tables : (limits : Limits) (keeper : KeeperView) (new : ServerTells) (accepted : List Entry) → new ≡ over limits keeper → AreTables keeper.rows accepted → AreTables new.keeper.rows accepted
kept_tables limits keeper new accepted same tables = ap (λ (t : ServerTells). t.keeper.rows) same ∙ tables

answered_once : Laws → (limits : Limits) (accepted : List Entry) (one other : KeeperView) (new new' : ServerTells) (body : List ℕ) (status status' : ℕ) (text text' : List ℕ) (route : Option Route) (it it' : Answer)
    → AreTables one.rows accepted → AreTables other.rows accepted → NoFault one.faults new.keeper.faults → NoFault other.faults new'.keeper.faults
    → ServerAnswers (over limits one) route body it new → ServerAnswers (over limits other) route body it' new' → IsCalled it (called.Answer status text) → IsCalled it' (called.Answer status' text')
    → SameAnswer status status' text text' new.keeper new'.keeper
answered_once laws limits accepted one other new new' body status status' text text' None it it' tables tables' steady steady' (same, kept) (same', kept') is is' =
    let equal = same_called it it' status status' text text' (same ∙ sym same') is is' in
    (equal.0, equal.1, (accepted, kept_tables limits one new accepted kept tables, kept_tables limits other new' accepted kept' tables'))
answered_once laws limits accepted one other new new' body status status' text text' (Some route) it it' tables tables' steady steady' (replied, same, replies, kept) (replied', same', replies', kept') is is' =
    let told = replies.answers accepted tables in
    let told' = replies'.answers accepted tables' in
    let asked = plain limits accepted (request_of route body) replied told.0 (λ e. steady (replies.counts.rose e)) (λ e. is.0 (same ∙ ap (λ (r : Reply). answer.Reply r) e)) told.1 in
    let asked' = plain limits accepted (request_of route body) replied' told'.0 (λ e. steady' (replies'.counts.rose e)) (λ e. is'.0 (same' ∙ ap (λ (r : Reply). answer.Reply r) e)) told'.1 in
    let once = replied_once laws limits accepted (request_of route body) replied replied' told.0 told'.0 asked asked' in
    let equal = same_called it it' status status' text text' (same ∙ ap (λ (r : Reply). answer.Reply r) once.0 ∙ sym same') is is' in
    (equal.0, equal.1, (told.0, told.2, told'.2 ∙ ap (λ l. Some (view l)) (sym once.1)))

called_once : Laws → (limits : Limits) (accepted : List Entry) (one other : KeeperView) (new new' : ServerTells) (asking : Asking) (path body : List ℕ) (status status' : ℕ) (text text' : List ℕ)
    → AreTables one.rows accepted → AreTables other.rows accepted → NoFault one.faults new.keeper.faults → NoFault other.faults new'.keeper.faults
    → ServerCalls (over limits one) asking path body (called.Answer status text) new → ServerCalls (over limits other) asking path body (called.Answer status' text') new'
    → SameAnswer status status' text text' new.keeper new'.keeper
called_once laws limits accepted one other new new' asking path body status status' text text' tables tables' steady steady' (inl short) again = let e = short.0 in absurd (cc)
called_once laws limits accepted one other new new' asking path body status status' text text' tables tables' steady steady' (inr first) (inl short) = let e = short.0 in absurd (cc)
called_once laws limits accepted one other new new' asking path body status status' text text' tables tables' steady steady' (inr (route, it, finds, answers, is)) (inr (route', it', finds', answers', is')) =
    let same = laws.route of_routes.Server (method_word asking) path route' route finds' finds in
    let P : Option Route → Type 0 = λ r. ServerAnswers (over limits other) r body it' new' in
    answered_once laws limits accepted one other new new' body status status' text text' route it it' tables tables' steady steady' answers (subst P same answers') is is'

responded_once : Laws → (limits : Limits) (accepted : List Entry) (one other : KeeperView) (new new' : ServerTells) (heard : Heard) (whole whole' : Bool) (status status' : ℕ) (text text' : List ℕ)
    → AreTables one.rows accepted → AreTables other.rows accepted → NoFault one.faults new.keeper.faults → NoFault other.faults new'.keeper.faults
    → Responds ServerCalls (over limits one) heard whole status text new → Responds ServerCalls (over limits other) heard whole' status' text' new'
    → SameAnswer status status' text text' new.keeper new'.keeper
responded_once laws limits accepted one other new new' (Call asking path body) whole whole' status status' text text' tables tables' steady steady' responds again =
    called_once laws limits accepted one other new new' asking path body status status' text text' tables tables' steady steady' responds.1 again.1
responded_once laws limits accepted one other new new' (Refused it) whole whole' status status' text text' tables tables' steady steady' responds again =
    (responds.0 ∙ sym again.0, responds.1 ∙ sym again.1, (accepted, kept_tables limits one new accepted responds.2 tables, kept_tables limits other new' accepted again.2 tables'))

-- ---- one conversation

-- what was heard was heard in what the peer says
heard_of : (left new : Option (List ℕ)) (said taken : List ℕ) (heard : Heard) (whole : Bool) → left ≡ Some said → IsHeard of_routes.Server left new taken heard whole → (most : ℕ) × Hears of_routes.Server said heard most
heard_of left new said taken heard whole is h =
    let S : Option (List ℕ) → Type 0 = λ o. Says o (taken ++ h.behind) in
    let says : said ≡ taken ++ h.behind = subst S is h.says in
    let P : List ℕ → Type 0 = λ b. Hears of_routes.Server b heard h.most in
    (h.most, subst P (sym says) h.hears)

-- who says something doesn't say nothing
not_silent : (left new : Option (List ℕ)) (said taken : List ℕ) (heard : Heard) (whole : Bool) (other : Option (List ℕ)) → left ≡ Some said → other ≡ Some said → IsHeard of_routes.Server left new taken heard whole → IsAtEnd other → ⊥
not_silent left new said taken heard whole other is is' h ends =
    let S : Option (List ℕ) → Type 0 = λ o. Says o (taken ++ h.behind) in
    let says : said ≡ taken ++ h.behind = subst S is h.says in
    let E : Option (List ℕ) → Type 0 = λ o. IsAtEnd o in
    let none : said ≡ [] = subst E is' ends in
    let count : length (taken ++ h.behind) ≡ 0 = ap (length {A = ℕ}) (sym says ∙ none) in
    let sum = length-append taken h.behind in
    let some = h.some in
    omega (arith, count, sum, some)

no_door : (old new : DoorView) (host host' : ServerTells) → NoFault old.faults new.faults → ServerTalks old host met.DoorFault new host' → ⊥
no_door old new host host' steady (inl (breaks, same)) = steady breaks.rose
no_door old new host host' steady (inr (status, was)) = steady (was.2.counts.rose refl)

-- in the conversation that has begun this response was written
wrote : (old new : Option (List (List ℕ))) (before : List (List ℕ)) (response : List ℕ) → old ≡ Some ([] ∷ before) → Appends (here old) (here new) response → earlier new ≡ earlier old → new ≡ Some (response ∷ before)
wrote old None before response is puts same = let P : Option (List (List ℕ)) → Type 0 = λ o. Appends (here o) None response in absurd (subst P is puts)
wrote old (Some []) before response is puts same = let P : Option (List (List ℕ)) → Type 0 = λ o. Appends (here o) None response in absurd (subst P is puts)
wrote old (Some (present ∷ more)) before response is puts same =
    let P : Option (List (List ℕ)) → Type 0 = λ o. Appends (here o) (Some present) response in
    let Q : Option (List (List ℕ)) → Type 0 = λ o. Some more ≡ earlier o in
    let now : present ≡ response = subst P is puts in
    let left : ◌≡◌ {A = Option (List (List ℕ))} (Some more) (Some before) = subst Q is same in
    let rest : more ≡ before = cc in
    ap (λ (l : List ℕ). Some (l ∷ more)) now ∙ ap (λ (l : List (List ℕ)). Some (response ∷ l)) rest

-- both doors hold the same
abbrev SameWritten : DoorView → DoorView → Type 0
SameWritten one other = (written : List (List ℕ)) × (one.written ≡ Some written) × (other.written ≡ Some written)

-- what two conversations begin with and leave
record TalksAlike (limits : Limits) (said : List ℕ) (before : List (List ℕ)) (accepted : List Entry) (door new_door : DoorView) (keeper : KeeperView) (new : ServerTells) (ended : Met) : Type 0 where
  says : door.left ≡ Some said
  holds : door.written ≡ Some ([] ∷ before)
  only : OnlyTalks door new_door
  tables : AreTables keeper.rows accepted
  steady : NoFault keeper.faults new.keeper.faults
  opened : NoFault door.faults new_door.faults
  whole : ended ≢ met.Memory
  talks : ServerTalks door (over limits keeper) ended new_door new

talked_once : Laws → (limits : Limits) (said : List ℕ) (before : List (List ℕ)) (accepted : List Entry) (door door' new_door new_door' : DoorView) (one other : KeeperView) (new new' : ServerTells) (ended ended' : Met)
    → TalksAlike limits said before accepted door new_door one new ended → TalksAlike limits said before accepted door' new_door' other new' ended'
    → (ended ≡ ended') × SameTables new.keeper new'.keeper × SameWritten new_door new_door'
talked_once laws limits said before accepted door door' new_door new_door' one other new new' met.DoorFault ended' a b = absurd (no_door door new_door (over limits one) new a.opened a.talks)
talked_once laws limits said before accepted door door' new_door new_door' one other new new' met.Memory ended' a b = absurd (a.whole refl)
talked_once laws limits said before accepted door door' new_door new_door' one other new new' (met.Answered status) met.DoorFault a b = absurd (no_door door' new_door' (over limits other) new' b.opened b.talks)
talked_once laws limits said before accepted door door' new_door new_door' one other new new' (met.Answered status) met.Memory a b = absurd (b.whole refl)
talked_once laws limits said before accepted door door' new_door new_door' one other new new' met.Closed met.DoorFault a b = absurd (no_door door' new_door' (over limits other) new' b.opened b.talks)
talked_once laws limits said before accepted door door' new_door new_door' one other new new' met.Closed met.Memory a b = absurd (b.whole refl)
talked_once laws limits said before accepted door door' new_door new_door' one other new new' met.Closed met.Closed a b = (
  refl,
  (accepted, kept_tables limits one new accepted a.talks.1 a.tables, kept_tables limits other new' accepted b.talks.1 b.tables),
  ([] ∷ before, a.talks.0.written ∙ a.holds, b.talks.0.written ∙ b.holds),
)
talked_once laws limits said before accepted door door' new_door new_door' one other new new' (met.Answered status) met.Closed a b =
    let due = a.talks.1 in
    absurd (not_silent door.left new_door.left said due.taken due.heard due.whole door'.left a.says b.says due.is b.talks.0.unsaid)
talked_once laws limits said before accepted door door' new_door new_door' one other new new' met.Closed (met.Answered status) a b =
    let due = b.talks.1 in
    absurd (not_silent door'.left new_door'.left said due.taken due.heard due.whole door.left b.says a.says due.is a.talks.0.unsaid)
talked_once laws limits said before accepted door door' new_door new_door' one other new new' (met.Answered status) (met.Answered status') a b =
    let due = a.talks.1 in
    let due' = b.talks.1 in
    let hears = heard_of door.left new_door.left said due.taken due.heard due.whole a.says due.is in
    let hears' = heard_of door'.left new_door'.left said due'.taken due'.heard due'.whole b.says due'.is in
    let same = (laws.heard of_routes.Server said due'.heard due.heard hears'.0 hears.0 hears'.1 hears.1).0 in
    let P : Heard → Type 0 = λ h. Responds ServerCalls (over limits other) h due'.whole status' b.talks.0 new' in
    let once = responded_once laws limits accepted one other new new' due.heard due.whole due'.whole status status' a.talks.0 b.talks.0 a.tables b.tables a.steady b.steady due.responds (subst P same due'.responds) in
    let response = spoken status a.talks.0 in
    let wrote_one : new_door.written ≡ Some (response ∷ before) = wrote door.written new_door.written before response a.holds a.talks.2.puts a.only.earlier in
    let wrote_other = wrote door'.written new_door'.written before (spoken status' b.talks.0) b.holds b.talks.2.puts b.only.earlier in
    let alike : spoken status a.talks.0 ≡ spoken status' b.talks.0 = ap (λ (s : ℕ). spoken s a.talks.0) once.0 ∙ ap (λ (x : List ℕ). spoken status' x) once.1 in
    (ap (λ s. met.Answered s) once.0, once.2, (response ∷ before, wrote_one, wrote_other ∙ ap (λ (l : List ℕ). Some (l ∷ before)) (sym alike)))

-- ---- runs

-- who comes next
next_comes : (coming : Option (List (List ℕ))) (said : List ℕ) (more : List (List ℕ)) (left_coming : Option (List (List ℕ))) (left : Option (List ℕ)) → coming ≡ Some (said ∷ more) → Comes coming left_coming left
    → (left_coming ≡ Some more) × (left ≡ Some said)
next_comes coming said more left_coming left is comes = let P : Option (List (List ℕ)) → Type 0 = λ c. Comes c left_coming left in subst P is comes

nobody : (coming left_coming : Option (List (List ℕ))) (left : Option (List ℕ)) → coming ≡ Some [] → Comes coming left_coming left → ⊥
nobody coming left_coming left is comes = let P : Option (List (List ℕ)) → Type 0 = λ c. Comes c left_coming left in subst P is comes

not_rose : (x y : ℕ) → x < 2 ^ 64 - 1 → y ≡ x → Rose x y → ⊥
not_rose x y below same rose = omega arith

-- two runs were one, and what they leave is the same
pub record Once (run again : Run) (one other : Scene) : Type 0 where
  pub same : run ≡ again
  pub coming : List (List ℕ)
  pub comes : one.door.coming ≡ Some coming
  pub comes_again : other.door.coming ≡ Some coming
  pub tables : SameTables one.keeper other.keeper
  pub written : SameWritten one.door other.door

-- what a run of whole conversations that didn't fail left on its way
record OnTheWay (old mid new : Scene) : Type 0 where
  steady : IsSteady old mid
  keeper : NoFault mid.keeper.faults new.keeper.faults
  door : NoFault mid.door.faults new.door.faults

on_the_way : Laws → (limits : Limits) (coming written : List (List ℕ)) (accepted : List Entry) (old mid new : Scene) (run : Run) (ended : Met) → TellsScene coming written accepted old → Runs limits old run mid → Talks limits mid ended new → IsSteady old new → OnTheWay old mid new
on_the_way laws limits coming written accepted old mid new run ended tells runs talks steady =
    let counts = talks_counted laws.keeper limits old mid run runs in
    let keeper_rose = later-RoseBy (ended_so (is_answered 500) run) old.keeper.faults mid.keeper.faults counts.keeper in
    let door_rose = later-RoseBy (ended_so is_door_fault run) old.door.faults mid.door.faults counts.door in
    let keeper_last = talk_keeper limits mid new ended talks in
    let door_last = talk_door_later limits mid new ended talks in
    let keeper_all = steady.keeper in
    let door_all = steady.door in
    let keeper_below = tells.keeper_rises in
    let door_below = tells.door_rises in record {
      steady = record { keeper = omega (arith, keeper_rose, keeper_last, keeper_all); door = omega (arith, door_rose, door_last, door_all) };
      keeper = not_rose mid.keeper.faults new.keeper.faults (omega (arith, keeper_rose, keeper_last, keeper_all, keeper_below)) (omega (arith, keeper_rose, keeper_last, keeper_all));
      door = not_rose mid.door.faults new.door.faults (omega (arith, door_rose, door_last, door_all, door_below)) (omega (arith, door_rose, door_last, door_all));
    }

-- a fault of the door after the conversation began was one after it was to begin
begun_steady : (limits : Limits) (mid new : Scene) (ended : Met) (talks : Talks limits mid ended new) → NoFault mid.door.faults new.door.faults → NoFault talks.begun.faults new.door.faults
begun_steady limits mid new ended talks steady rose = steady (RoseBy-later 1 mid.door.faults talks.begun.faults new.door.faults talks.begins.counts.later rose)

begun_holds : (old begun : Option (List (List ℕ))) (before : List (List ℕ)) → old ≡ Some before → begun ≡ with_first [] old → begun ≡ Some ([] ∷ before)
begun_holds old begun before holds is = is ∙ ap (λ (o : Option (List (List ℕ))). with_first [] o) holds

-- one conversation more
next_once : Laws → (limits : Limits) (later : List Entry) (before : List (List ℕ)) (coming : List (List ℕ)) (mid mid' new new' : Scene) (run : Run) (ended ended' : Met)
    → mid.door.written ≡ Some before → mid'.door.written ≡ Some before → mid.door.coming ≡ Some coming → mid'.door.coming ≡ Some coming → AreTables mid.keeper.rows later → AreTables mid'.keeper.rows later
    → NoFault mid.keeper.faults new.keeper.faults → NoFault mid.door.faults new.door.faults → NoFault mid'.keeper.faults new'.keeper.faults → NoFault mid'.door.faults new'.door.faults
    → Talks limits mid ended new → ended ≢ met.Memory → Talks limits mid' ended' new' → ended' ≢ met.Memory → Once (Then run ended) (Then run ended') new new'
next_once laws limits later before [] mid mid' new new' run ended ended' holds holds' comes comes' tables tables' k d k' d' talks whole talks' whole' = absurd (nobody mid.door.coming talks.begun.coming talks.begun.left comes talks.begins.begins.0)
next_once laws limits later before (said ∷ more) mid mid' new new' run ended ended' holds holds' comes comes' tables tables' k d k' d' talks whole talks' whole' =
    let next = next_comes mid.door.coming said more talks.begun.coming talks.begun.left comes talks.begins.begins.0 in
    let next' = next_comes mid'.door.coming said more talks'.begun.coming talks'.begun.left comes' talks'.begins.begins.0 in
    let once = talked_once laws limits said before later talks.begun talks'.begun new.door new'.door mid.keeper mid'.keeper (server_of limits new) (server_of limits new') ended ended'
    (record { says = next.1; holds = begun_holds mid.door.written talks.begun.written before holds talks.begins.begins.1; only = talks.only; tables = tables; steady = k; opened = begun_steady limits mid new ended talks d; whole = whole; talks = talks.talks })
    (record { says = next'.1; holds = begun_holds mid'.door.written talks'.begun.written before holds' talks'.begins.begins.1; only = talks'.only; tables = tables'; steady = k'; opened = begun_steady limits mid' new' ended' talks' d'; whole = whole'; talks = talks'.talks }) in record {
      same = ap (λ (m : Met). Then run m) once.0;
      coming = more;
      comes = talks.only.coming ∙ next.0;
      comes_again = talks'.only.coming ∙ next'.0;
      tables = once.1;
      written = once.2;
    }

runs_once : Laws → (limits : Limits) (coming written : List (List ℕ)) (accepted : List Entry) (old start one other : Scene) → TellsScene coming written accepted old → TellsScene coming written accepted start
    → (run again : Run) → Runs limits old run one → Runs limits start again other → talk_count run ≡ talk_count again → IsSteady old one → IsSteady start other → Once run again one other
runs_once laws limits coming written accepted old start one other tells tells' Begun Begun same same' count steady steady' =
    let came = ap (λ (s : Scene). s.door.coming) same in
    let came' = ap (λ (s : Scene). s.door.coming) same' in
    let held = ap (λ (s : Scene). s.door.written) same in
    let held' = ap (λ (s : Scene). s.door.written) same' in
    let rows = ap (λ (s : Scene). s.keeper.rows) same in
    let rows' = ap (λ (s : Scene). s.keeper.rows) same' in record {
      same = refl;
      coming = coming;
      comes = came ∙ tells.comes;
      comes_again = came' ∙ tells'.comes;
      tables = (accepted, rows ∙ tells.tables, rows' ∙ tells'.tables);
      written = (written, held ∙ tells.holds, held' ∙ tells'.holds);
    }
runs_once laws limits coming written accepted old start one other tells tells' Begun (Then again ended') same runs' count steady steady' = absurd (omega arith)
runs_once laws limits coming written accepted old start one other tells tells' (Then run ended) Begun runs same' count steady steady' = absurd (omega arith)
runs_once laws limits coming written accepted old start one other tells tells' (Then run ended) (Then again ended') (mid, runs, serves) (mid', runs', serves') count steady steady' =
    let way = on_the_way laws limits coming written accepted old mid one run ended tells runs serves.talks steady in
    let way' = on_the_way laws limits coming written accepted start mid' other again ended' tells' runs' serves'.talks steady' in
    let before = runs_once laws limits coming written accepted old start mid mid' tells tells' run again runs runs' (omega arith) way.steady way'.steady in
    let last = next_once laws limits before.tables.0 before.written.0 before.coming mid mid' one other run ended ended' before.written.1 before.written.2 before.comes before.comes_again before.tables.1 before.tables.2
    way.keeper way.door way'.keeper way'.door serves.talks serves.whole serves'.talks serves'.whole in
    let P : Run → Type 0 = λ r. Once (Then run ended) (Then r ended') one other in
    subst P before.same last

pub served_once : Laws → (limits : Limits) (coming written : List (List ℕ)) (accepted : List Entry) (old start one other : Scene) (run again : Run) → TellsScene coming written accepted old → TellsScene coming written accepted start
    → Runs limits old run one → Runs limits start again other → talk_count run ≡ talk_count again → IsSteady old one → IsSteady start other → (run ≡ again) × LeaveAlike one other
served_once laws limits coming written accepted old start one other run again tells tells' runs runs' count steady steady' =
    let once = runs_once laws limits coming written accepted old start one other tells tells' run again runs runs' count steady steady' in
    (once.same, record { written = once.written.1 ∙ sym once.written.2; rows = once.tables.1 ∙ sym once.tables.2 })
