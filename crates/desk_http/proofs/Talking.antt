-- A conversation by its steps: what was read, what was answered, and the close.
use Rattle.std.proofs.Common.{◌≡◌, ℕ, Bool, true, false, List, Option, refl, sym, ap, subst, ◌∙◌, inl, inr}
use Rattle.std.specs.Io.KnownBytes.{Consumes, Keeps}
use Rattle.desk_base.specs.Counts.{CountsFaults, Rose}
use Rattle.desk_base.specs.Flow.{Puts}
use Rattle.desk_base.specs.declared.sink.Put.{Put}
use Rattle.desk_base.specs.declared.sink.Put.TheVariants as put
use Rattle.desk_door.specs.Doors.{DoorView, EndsTalk, WritesOut, here, earlier}
use Rattle.desk_door.specs.Lists.{with_next}
use Rattle.httparse.specs.Spans.{span_bytes}
use Rattle.route_rules.specs.declared.method.Asking.{Asking}
use Rattle.route_rules.specs.declared.route.Routes.{Routes}
use Rattle.desk_http.specs.declared.host.Called.{Called}
use Rattle.desk_http.specs.declared.request.Taken.{Taken}
use Rattle.desk_http.specs.declared.request.Taken.TheVariants as taken
use Rattle.desk_http.specs.declared.talk.Met.{Met}
use Rattle.desk_http.specs.declared.talk.Met.TheVariants as met
use Rattle.desk_http.specs.Conversing.{Answers, BreaksOff, ClosesUnsaid, Converses, IsHeard, OnlyTalks, Responds, RunsOut, TakesFew, WasCalled, Writes}
use Rattle.desk_http.specs.Heard.{Heard, Call, Refused}
use Rattle.desk_http.specs.Reading.{OnlyReads, TakesRequest, is_whole}
use Rattle.desk_http.specs.Replying.{AnswersCall, Talks, met_of}
use Rattle.desk_http.specs.Spoken.{spoken, status_of, text_of, memory_text}

-- what a write did where it was read before and closed afterwards
moved : (P : Option (List ℕ) → Option (List ℕ) → Type 0) (old mid last new : DoorView) → mid.written ≡ old.written → new.written ≡ last.written → P (here mid.written) (here last.written) → P (here old.written) (here new.written)
moved P old mid last new e f p =
    subst (λ x. P (here old.written) (here x)) (sym f) (subst (λ x. P (here x) (here last.written)) e p)

-- where the request was read without a fault
module _ {Told : Type 0} (calls : Told → Asking → List ℕ → List ℕ → Called → Told → Type 0) (routes : Routes) (old mid last new : DoorView) (host host' : Told) (failed : Type 0) (only : OnlyReads failed old mid) (sound : failed → ⊥) (whole : Bool) (ends : EndsTalk whole last new) where
  written : (piece : List ℕ) (answer : Put) → WritesOut piece mid answer last → Writes piece old answer new
  written piece answer w = record {
    puts = moved (λ x y. Puts x y answer piece) old mid last new only.written ends.written w.puts;
    counts = subst (λ n. CountsFaults (answer ≡ put.Failed) old.faults n) (sym ends.faults)
        (subst (λ n. CountsFaults (answer ≡ put.Failed) n last.faults) (only.counts.steady sound) w.counts);
  }

  -- the door was closed after a write
  heard_still : (buf : List ℕ) (heard : Heard) (piece : List ℕ) (answer : Put) → WritesOut piece mid answer last → IsHeard routes old.left mid.left buf heard whole → IsHeard routes old.left new.left buf heard whole
  heard_still buf heard piece answer w is = subst (λ l. IsHeard routes old.left l buf heard whole) (sym (ends.left ∙ w.left)) is

  ended_so : (piece : List ℕ) (answer : Put) → WritesOut piece mid answer last → new.ended ≡ with_next whole old.ended
  ended_so piece answer w = ends.ended ∙ ap (with_next whole) (w.ended ∙ only.ended)

  due : (buf : List ℕ) (heard : Heard) → IsHeard routes old.left mid.left buf heard whole → (status : ℕ) (text : List ℕ) (answer : Put) → WritesOut (spoken status text) mid answer last → Responds calls host heard whole status text host' → Answers calls routes old host status answer new host'
  due buf heard is status text answer w responds = (
    text,
    record {
      taken = buf;
      heard = heard;
      whole = whole;
      is = heard_still buf heard (spoken status text) answer w is;
      ended = ended_so (spoken status text) answer w;
      responds = responds;
    },
    written (spoken status text) answer w,
  )

  met_so : (m : Met) (status : ℕ) (answer : Put) → m ≡ met_of status answer → Answers calls routes old host status answer new host' → Converses calls routes old host m new host'
  met_so m status put.Done same is = subst (λ m. Converses calls routes old host m new host') (sym same) is
  met_so m status put.Failed same is = subst (λ m. Converses calls routes old host m new host') (sym same) (inr (status, is))

  call_answered : (m : Met) (buf : List ℕ) (asking : Asking) (path body : List ℕ) → whole ≡ true → IsHeard routes old.left mid.left buf (Call asking path body) whole → AnswersCall calls mid host asking path body m last host' → Converses calls routes old host m new host'
  call_answered (met.Answered s) buf asking path body all is (status, text, it, (answer, same, w)) =
      met_so (met.Answered s) status answer same (due buf (Call asking path body) is status text answer w (all, it))
  call_answered met.Closed buf asking path body all is (status, text, it, (answer, same, w)) =
      met_so met.Closed status answer same (due buf (Call asking path body) is status text answer w (all, it))
  call_answered met.DoorFault buf asking path body all is (status, text, it, (answer, same, w)) =
      met_so met.DoorFault status answer same (due buf (Call asking path body) is status text answer w (all, it))
  call_answered met.Memory buf asking path body all is (it, calls_is, (answer, w)) =
      let heard = heard_still buf (Call asking path body) (spoken 503 memory_text) answer w is in
      let called : WasCalled calls routes old host new host' = record {
        taken = buf;
        asking = asking;
        path = path;
        body = body;
        called = it;
        is = subst (λ b. IsHeard routes old.left new.left buf (Call asking path body) b) all heard;
        ended = subst (λ b. new.ended ≡ with_next b old.ended) all (ended_so (spoken 503 memory_text) answer w);
        answers = calls_is;
      } in
      (inr called, answer, written (spoken 503 memory_text) answer w)

module _ {Told : Type 0} (calls : Told → Asking → List ℕ → List ℕ → Called → Told → Type 0) (routes : Routes) (old mid last new : DoorView) (host host' : Told) where
  pub conversed : (buf : List ℕ) (t : Taken) (m : Met) → TakesRequest routes old.left mid.left buf t → OnlyReads (t ≡ taken.Failed) old mid → Talks calls mid host buf t m last host' → EndsTalk (is_whole t) last new → Converses calls routes old host m new host'
  conversed buf (taken.Call call) m takes only talks ends =
      call_answered calls routes old mid last new host host' (taken.Call call ≡ taken.Failed) only (λ e. cc e) true ends m buf call.asking (span_bytes buf call.path) (span_bytes buf call.body) refl takes.1 talks
  conversed buf (taken.Refused r whole) m takes only talks ends =
      let sound : taken.Refused r whole ≡ taken.Failed → ⊥ = λ e. cc e in
      let is = due calls routes old mid last new host host' (taken.Refused r whole ≡ taken.Failed) only sound whole ends buf (Refused r) takes (status_of r) (text_of r) talks.1 talks.3 (refl, refl, talks.0) in
      met_so calls routes old mid last new host host' (taken.Refused r whole ≡ taken.Failed) only sound whole ends m (status_of r) talks.1 talks.2 is
  conversed buf taken.Closed m takes only talks ends =
      let same : last ≡ mid = talks.2 in
      let closed : ClosesUnsaid old new = record {
        unsaid = takes.0;
        keeps = subst (λ l. Keeps old.left l) (sym (ends.left ∙ ap (λ (d : DoorView). d.left) same)) takes.1;
        written = ends.written ∙ ap (λ (d : DoorView). d.written) same ∙ only.written;
        ended = ends.ended ∙ ap (with_next false) (ap (λ (d : DoorView). d.ended) same ∙ only.ended);
        faults = ends.faults ∙ ap (λ (d : DoorView). d.faults) same ∙ only.counts.steady (λ e. cc e);
      } in
      let done : Converses calls routes old host met.Closed new host' = (closed, talks.0) in
      subst (λ m. Converses calls routes old host m new host') (sym talks.1) done
  conversed buf taken.Failed m takes only talks ends =
      let same : last ≡ mid = talks.2 in
      let faults : new.faults ≡ mid.faults = ends.faults ∙ ap (λ (d : DoorView). d.faults) same in
      let broken : BreaksOff routes old new = record {
        taken = buf;
        takes = subst (λ l. Consumes old.left l buf) (sym (ends.left ∙ ap (λ (d : DoorView). d.left) same)) takes.0;
        begun = takes.1;
        written = ends.written ∙ ap (λ (d : DoorView). d.written) same ∙ only.written;
        ended = ends.ended ∙ ap (with_next false) (ap (λ (d : DoorView). d.ended) same ∙ only.ended);
        rose = subst (λ n. Rose old.faults n) (sym faults) (only.counts.rose refl);
      } in
      let done : Converses calls routes old host met.DoorFault new host' = inl (broken, talks.0) in
      subst (λ m. Converses calls routes old host m new host') (sym talks.1) done
  conversed buf taken.Memory m takes only talks ends =
      let w = talks.2.1 in
      let sound : taken.Memory ≡ taken.Failed → ⊥ = λ e. cc e in
      let out : RunsOut routes old new = record {
        few = subst (λ l. TakesFew routes old.left l) (sym (ends.left ∙ w.left)) takes;
        ended = ends.ended ∙ ap (with_next false) (w.ended ∙ only.ended);
      } in
      let done : Converses calls routes old host met.Memory new host' = (inl (out, talks.0), talks.2.0, written calls routes old mid last new host host' (taken.Memory ≡ taken.Failed) only sound false ends (spoken 503 memory_text) talks.2.0 w) in
      subst (λ m. Converses calls routes old host m new host') (sym talks.1) done

-- what a conversation leaves
only_of : (failed : Type 0) (piece : List ℕ) (old mid last new : DoorView) (answer : Put) (whole : Bool) → OnlyReads failed old mid → WritesOut piece mid answer last → EndsTalk whole last new → OnlyTalks old new
only_of failed piece old mid last new answer whole only writes ends = record {
  ports = ends.ports ∙ writes.ports ∙ only.ports;
  coming = ends.coming ∙ writes.coming ∙ only.coming;
  earlier = ap earlier ends.written ∙ writes.earlier ∙ ap earlier only.written;
  nowhere = λ none. ends.written ∙ writes.nowhere (only.written ∙ none);
}

only_read : (failed : Type 0) (old mid last new : DoorView) (whole : Bool) → OnlyReads failed old mid → last ≡ mid → EndsTalk whole last new → OnlyTalks old new
only_read failed old mid last new whole only same ends = record {
  ports = ends.ports ∙ ap (λ (d : DoorView). d.ports) same ∙ only.ports;
  coming = ends.coming ∙ ap (λ (d : DoorView). d.coming) same ∙ only.coming;
  earlier = ap earlier (ends.written ∙ ap (λ (d : DoorView). d.written) same ∙ only.written);
  nowhere = λ none. ends.written ∙ ap (λ (d : DoorView). d.written) same ∙ only.written ∙ none;
}

module _ {Told : Type 0} (calls : Told → Asking → List ℕ → List ℕ → Called → Told → Type 0) (old mid last new : DoorView) (host host' : Told) where
  call_leaves : (asking : Asking) (path body : List ℕ) (m : Met) (failed : Type 0) (whole : Bool) → OnlyReads failed old mid → EndsTalk whole last new → AnswersCall calls mid host asking path body m last host' → OnlyTalks old new
  call_leaves asking path body (met.Answered s) failed whole only ends (status, text, it, (answer, same, writes)) = only_of failed (spoken status text) old mid last new answer whole only writes ends
  call_leaves asking path body met.Closed failed whole only ends (status, text, it, (answer, same, writes)) = only_of failed (spoken status text) old mid last new answer whole only writes ends
  call_leaves asking path body met.DoorFault failed whole only ends (status, text, it, (answer, same, writes)) = only_of failed (spoken status text) old mid last new answer whole only writes ends
  call_leaves asking path body met.Memory failed whole only ends (it, calls_is, writes) = only_of failed (spoken 503 memory_text) old mid last new writes.0 whole only writes.1 ends

  pub leaves : (buf : List ℕ) (t : Taken) (m : Met) → OnlyReads (t ≡ taken.Failed) old mid → Talks calls mid host buf t m last host' → EndsTalk (is_whole t) last new → OnlyTalks old new
  leaves buf (taken.Call call) m only talks ends = call_leaves call.asking (span_bytes buf call.path) (span_bytes buf call.body) m (taken.Call call ≡ taken.Failed) true only ends talks
  leaves buf (taken.Refused r whole) m only talks ends = only_of (taken.Refused r whole ≡ taken.Failed) (spoken (status_of r) (text_of r)) old mid last new talks.1 whole only talks.3 ends
  leaves buf taken.Closed m only talks ends = only_read (taken.Closed ≡ taken.Failed) old mid last new false only talks.2 ends
  leaves buf taken.Failed m only talks ends = only_read (taken.Failed ≡ taken.Failed) old mid last new false only talks.2 ends
  leaves buf taken.Memory m only talks ends = only_of (taken.Memory ≡ taken.Failed) (spoken 503 memory_text) old mid last new talks.2.0 false only talks.2.1 ends
