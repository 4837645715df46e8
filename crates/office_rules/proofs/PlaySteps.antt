-- What is played is a schedule of the delivery of reports.
use Rattle.std.proofs.Common.{◌≢◌, ℕ, List, [], ◌∷◌, ◌++◌, Some, refl, sym, subst, ◌∙◌, append-nil}
use Rattle.std.specs.Prelude.{codes, filter_map, map}
use Rattle.std.proofs.lemmas.List.Elements.{All-nil}
use Rattle.report_text.specs.declared.answer.Verdict.{Verdict}
use Rattle.report_text.specs.declared.answer.Verdict.TheVariants as verdicts
use Rattle.relay_core.specs.KeptSites.{AreKept}
use Rattle.relay_core.specs.Relays.{RelayState}
use Rattle.server_text.specs.declared.reply.Reply.{Reply}
use Rattle.server_text.specs.declared.reply.Reply.TheVariants as replies
use Rattle.server_text.specs.declared.request.Request.TheVariants as request
use Rattle.server_core.specs.DeskLimits.{desk_limits}
use Rattle.office_text.specs.declared.order.Order.{Order}
use Rattle.office_text.specs.declared.order.Order.TheVariants as order
use Rattle.delivery.specs.Holdings.{TellsNoConflict}
use Rattle.delivery.specs.Messages.{Carrier, Message, ReportToRelay, ReportToServer, VerdictToComputer, ReplyToRelay}
use Rattle.delivery.specs.Schedules.{Computer, Network, Step, new_computer, new_relay, reached, start}
use Rattle.turn_lines.specs.VerdictWords.{reply_word, verdict_word}
use Rattle.office_rules.specs.Deeds.{DoesEach}
use Rattle.office_rules.specs.Offices.{IsSoundComputer, IsSoundOffice, Office, PlayedComputer, carriers_of, empty_office}
use Rattle.office_rules.specs.OfficeSchedules.{AreComputersOf, IsNetworkOf, ReachesOffice, SaysNoConflict, deployment_of, named_computer, named_relay}
use Rattle.office_rules.specs.Plays.{IsPlayed, PlaysOrder}
use Rattle.office_rules.specs.WordSteps.{AreOfEach, AreStepsOf}
use Rattle.office_rules.proofs.Networks.{Ends, FollowsOffice, IsKnown, computers_like, no_steps, reached_both, schedule_both}
use Rattle.office_rules.proofs.TurningMail.{TurnsAreSteps}
use Rattle.office_rules.proofs.DeedSteps.{Reopens, asking, forgetting, gathering, naming_computer, naming_relay, no_acting, no_filing, no_publishing, no_stopping, restarting, turning}
use Rattle.office_rules.proofs.GroupSteps.{measuring, targeting}
use Rattle.office_rules.proofs.MessageSteps.{delivering, forwarding, pushing, reporting, sending}

-- ---- orders
-- what is still to be named
abbrev coming_of : List Order → List (List ℕ × Computer)
coming_of orders = map new_computer (filter_map named_computer orders)

abbrev later_of : List Order → List (List ℕ × Carrier)
later_of orders = map new_relay (filter_map named_relay orders)

module _ (law : TurnsAreSteps) (reopens : Reopens) where
  plays_steps : (what : Order) (orders : List Order) (old : Office) (n : Network) (said : List ℕ) (new : Office) → IsSoundOffice old → FollowsOffice (coming_of (what ∷ orders)) (later_of (what ∷ orders)) n old → PlaysOrder what old said new
      → (steps : List Step) × AreStepsOf what old steps × Ends (coming_of orders) (later_of orders) n steps new
  plays_steps (order.Publish text) orders old n said new sound f p = asking (codes "publish") (request.Publish text) (no_publishing text) old (coming_of orders) (later_of orders) n said new f p.obeys
  plays_steps (order.Act text) orders old n said new sound f p = asking (codes "act") (request.Act text) (no_acting text) old (coming_of orders) (later_of orders) n said new f p.obeys
  plays_steps (order.Stop id) orders old n said new sound f p = asking (codes "stop") (request.Stop id) (no_stopping id) old (coming_of orders) (later_of orders) n said new f p.obeys
  plays_steps (order.File bytes) orders old n said new sound f p = asking (codes "file") (request.File bytes) (no_filing bytes) old (coming_of orders) (later_of orders) n said new f p.obeys
  plays_steps (order.Relay name) orders old n said new sound f p = ([], refl, naming_relay (coming_of orders) (later_of orders) n name old new f p.obeys.1)
  plays_steps (order.Computer name relay world) orders old n said new sound f p = (
    [],
    refl,
    naming_computer (coming_of orders) (later_of orders) n (name, relay) _ old new f p.obeys.1 refl (record { computer = refl; next = refl; outbox = refl; kept = (refl, refl) }) refl,
  )
  plays_steps (order.Gather relay) orders old n said new sound f p = gathering relay old (coming_of orders) (later_of orders) n said new f p.obeys
  plays_steps (order.Turn name moment) orders old n said new sound f p = turning law name moment old (coming_of orders) (later_of orders) n said new f p.obeys p.sound
  plays_steps (order.Restart name) orders old n said new sound f p = restarting reopens name old (coming_of orders) (later_of orders) n said new f p.obeys
  plays_steps (order.Send name seq) orders old n said new sound f p = sending name seq old (coming_of orders) (later_of orders) n said new f p.obeys
  plays_steps (order.Push relay) orders old n said new sound f p = pushing relay old (coming_of orders) (later_of orders) n said new f p.obeys
  plays_steps (order.Deliver message) orders old n said new sound f p = delivering message old (coming_of orders) (later_of orders) n said new f p.obeys
  plays_steps (order.Report name) orders old n said new sound f p = reporting name old sound (coming_of orders) (later_of orders) n said new f p.obeys
  plays_steps (order.Forward relay) orders old n said new sound f p = forwarding relay old (coming_of orders) (later_of orders) n said new f p.obeys
  plays_steps (order.Forget relay) orders old n said new sound f p = forgetting relay old (coming_of orders) (later_of orders) n said new f p.obeys
  plays_steps (order.Analysis analysis) orders old n said new sound f p = ([], refl, no_steps (coming_of orders) (later_of orders) n _ new p.obeys.new_is f)
  plays_steps (order.Group group) orders old n said new sound f p = ([], refl, no_steps (coming_of orders) (later_of orders) n _ new p.obeys.new_is f)
  plays_steps (order.Measure name moment) orders old n said new sound f p = measuring name moment old (coming_of orders) (later_of orders) n said new f p.obeys
  plays_steps (order.Members name) orders old n said new sound f p = ([], refl, no_steps (coming_of orders) (later_of orders) n old new p.obeys.0 f)
  plays_steps (order.Target name text) orders old n said new sound f p = targeting name text old (coming_of orders) (later_of orders) n said new f p.obeys

  all_steps : (orders : List Order) (old : Office) (n : Network) (said : List ℕ) (new : Office) → IsSoundOffice old → FollowsOffice (coming_of orders) (later_of orders) n old → DoesEach PlaysOrder orders old said new
      → (steps : List Step) × AreOfEach PlaysOrder AreStepsOf orders old steps × Ends [] [] n steps new
  all_steps [] old n said new sound f p = ([], refl, no_steps [] [] n old new p.1 f)
  all_steps (what ∷ orders) old n said new sound f (mid, a, b, p, q, is) =
      let first = plays_steps what orders old n a mid sound f p in
      let more = all_steps orders mid (reached desk_limits n first.0) b new p.sound first.2.follows q in (
        first.0 ++ more.0,
        (mid, a, first.0, more.0, p, first.1, more.1, refl),
        record {
          schedule = schedule_both desk_limits n first.0 more.0 first.2.schedule more.2.schedule;
          follows = subst (λ (x : Network). FollowsOffice [] [] x new) (sym (reached_both desk_limits n first.0 more.0)) more.2.follows;
        },
      )

  -- the network at the end is the office's
  network_of : (n : Network) (o : Office) → FollowsOffice [] [] n o → IsNetworkOf n o
  network_of n o f = record {
    accepted = f.accepted_are;
    messages = f.messages_are;
    relays = f.relays_are ∙ append-nil (carriers_of o.relays);
    computers = subst (λ (l : List (List ℕ × Computer)). AreComputersOf l o.computers) (sym (f.computers_are ∙ append-nil f.front)) (computers_like f.front o.computers f.like);
  }

  pub office_reached : (orders : List Order) (written : List ℕ) (o : Office) → IsPlayed orders written o → ReachesOffice orders o
  office_reached orders written o p =
      let all = all_steps orders empty_office (start (deployment_of orders)) p.said o (record { computers = All-nil (λ (entry : List ℕ × PlayedComputer). IsSoundComputer entry.1); relays = All-nil (λ (entry : List ℕ × RelayState). AreKept entry.1.sites) }) (record {
        accepted_are = refl;
        messages_are = refl;
        relays_are = refl;
        front = [];
        computers_are = refl;
        like = tt;
        desk = tt;
        known = All-nil (IsKnown []);
      }) p.plays in
      record { steps = all.0; are = all.1; schedule = all.2.schedule; network = network_of _ o all.2.follows }

-- ---- words
verdict_says : (verdict : Verdict) → ((kept : List ℕ) → verdict ≢ verdicts.Conflict kept) → Some (verdict_word verdict) ≢ Some (codes "conflict")
verdict_says verdicts.Stored none = λ e. absurd (cc)
verdict_says verdicts.Carried none = λ e. absurd (cc)
verdict_says (verdicts.Conflict digest) none = λ e. none digest refl
verdict_says (verdicts.Full limit) none = λ e. absurd (cc)

reply_says : (answered : Reply) → ((kept : List ℕ) → answered ≢ replies.Conflict kept) → reply_word answered ≢ Some (codes "conflict")
reply_says replies.Ok none = λ e. absurd (cc)
reply_says replies.Again none = λ e. absurd (cc)
reply_says (replies.Conflict digest) none = λ e. none digest refl
reply_says (replies.Full limit) none = λ e. absurd (cc)
reply_says (replies.Digest digest) none = λ e. absurd (cc)
reply_says (replies.Sites sites) none = λ e. absurd (cc)
reply_says (replies.Site text) none = λ e. absurd (cc)
reply_says replies.Same none = λ e. absurd (cc)
reply_says (replies.Content bytes) none = λ e. absurd (cc)
reply_says (replies.Rows rows) none = λ e. absurd (cc)
reply_says (replies.BadText line) none = λ e. absurd (cc)
reply_says replies.NoSuch none = λ e. absurd (cc)
reply_says (replies.Older version) none = λ e. absurd (cc)
reply_says replies.KeeperFault none = λ e. absurd (cc)
reply_says replies.Memory none = λ e. absurd (cc)

-- a message that tells of no conflict has no such word
pub says_no_conflict : (message : Message) → TellsNoConflict message → SaysNoConflict message
says_no_conflict (ReportToRelay relay report) tells = λ e. absurd (cc)
says_no_conflict (ReportToServer relay report) tells = λ e. absurd (cc)
says_no_conflict (VerdictToComputer computer seq verdict) tells = verdict_says verdict tells
says_no_conflict (ReplyToRelay relay key digest answered) tells = reply_says answered tells
