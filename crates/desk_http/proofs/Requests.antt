-- What was heard, by what was read.
use Rattle.std.proofs.Common.{◌≡◌, ℕ, ◌≤◌, ◌<◌, ◌+◌, ◌-◌, ◌⊎◌, max, nat_lt, nat_le, is_some, Bool, true, false, List, [], ◌++◌, Option, None, Some, unwrap_or, Result, Ok, IfOk, length, length-append, length-take-le, length-drop, drop, take, map, refl, sym, ap, ◌∙◌, subst, arith, inl, inr, append-nil, append_assoc}
use Rattle.std.specs.List.{slice_range}
use Rattle.std.specs.Io.KnownBytes.{Consumes, IsAtEnd}
use Rattle.std.proofs.KnownBytes.{Consumes-trans}
use Rattle.std.proofs.lemmas.List.{length-map}
use Rattle.std.proofs.lemmas.Grind.{common_steps}
use Rattle.std.proofs.lemmas.Bool.{false≢true}
use Rattle.std.proofs.lemmas.Bool.Decides.{nat_tests}
use Rattle.httparse.specs.Grammar.{RequestHead, print_request}
use Rattle.httparse.specs.Spans.{IsRequestAt, IsRequestWithin, IsWithin, span_bytes, header_bytes, name_and_value}
use Rattle.httparse.specs.declared.spans.Span.{Span}
use Rattle.httparse.specs.declared.spans.HeaderSpan.{HeaderSpan}
use Rattle.httparse.specs.declared.spans.RequestSpans.{RequestSpans}
use Rattle.httparse.proofs.GrammarLemmas.{ReadsRequest-append, request_unique}
use Rattle.route_rules.specs.declared.route.Route.{Route}
use Rattle.route_rules.specs.declared.route.Route.TheVariants as route
use Rattle.route_rules.specs.declared.route.Routes.{Routes}
use Rattle.route_rules.specs.Routes.{FindsRoute, row_of}
use Rattle.desk_http.specs.declared.request.Refusal.TheVariants.{BadRequest, NoSuch, TooLong}
use Rattle.desk_http.specs.Fields.{request_length}
use Rattle.desk_http.specs.Heard.{Heard, Call, Refused, IsHead, HasNoHead, heard_behind, length_of, most_behind, Hears, no_head, bad_fields, good_head}
use Rattle.desk_http.specs.Conversing.{Says, IsWhole, SaysWhole, IsHeard, IsBegun, in_body, for_head, for_body, TakesFew}
use Rattle.desk_http.specs.Reading.{Grew, IsClamped, NeverHasHead, TakesAtMost}

abbrev pub rest_of : Option (List ℕ) → List ℕ
rest_of None = []
rest_of (Some bytes) = bytes

says_all : (old new : Option (List ℕ)) (buf : List ℕ) → Consumes old new buf → Says old (buf ++ rest_of new)
says_all None new buf taken = tt
says_all (Some xs) None buf taken = absurd taken
says_all (Some xs) (Some ys) buf taken = taken

-- bytes that were taken, and what is heard in all
pub heard_in : (routes : Routes) (old new : Option (List ℕ)) (buf : List ℕ) (heard : Heard) (whole : Bool) (most : ℕ) → Consumes old new buf → 0 < length buf → length buf ≤ most → Hears routes (buf ++ rest_of new) heard most → SaysWhole buf whole → IsHeard routes old new buf heard whole
heard_in routes old new buf heard whole most taken some few hears ends = record {
  behind = rest_of new;
  most = most;
  says = says_all old new buf taken;
  hears = hears;
  takes = taken;
  some = some;
  few = few;
  ends = ends;
}

-- where there is no head, there is no whole request
none_whole : (buf : List ℕ) → HasNoHead buf → ¬ IsWhole buf
none_whole buf none w = none w.head w.rest w.reads

-- and none where less stands behind the head than it states
cut_whole : (buf : List ℕ) (h : RequestHead) (rest : List ℕ) → IsHead buf h rest → ((k : ℕ) → length_of h ≡ Some k → length rest < k) → ¬ IsWhole buf
cut_whole buf h rest is less w =
    let same = request_unique buf h w.head rest w.rest is.reads w.reads.reads in
    let cut = less w.count (ap length_of same.0 ∙ w.states) in
    omega (arith, cut, w.follows, ap length same.1)

pub none_some : (a : ℕ) → None ≡ Some a → ⊥
none_some a e = false≢true (ap (λ o. is_some o) e)

pub same_in : (a b : ℕ) → Some a ≡ Some b → a ≡ b
same_in a b e = ap (λ o. unwrap_or o a) e

never_at_all : (buf : List ℕ) → NeverHasHead buf → HasNoHead buf
never_at_all buf never = subst (λ l. HasNoHead l) (append-nil buf) (never [])

rest_at_end : (new : Option (List ℕ)) → IsAtEnd new → rest_of new ≡ []
rest_at_end None is = refl
rest_at_end (Some xs) is = is

pub hears_no_head : (routes : Routes) (old new : Option (List ℕ)) (buf : List ℕ) → Consumes old new buf → 0 < length buf → length buf ≤ 16384 → NeverHasHead buf ⊎ (IsAtEnd new × HasNoHead buf) → IsHeard routes old new buf (Refused BadRequest) false
hears_no_head routes old new buf taken some few (inl never) =
    heard_in routes old new buf (Refused BadRequest) false 16384 taken some few (no_head (never (rest_of new)) refl refl) (none_whole buf (never_at_all buf never))
hears_no_head routes old new buf taken some few (inr (end, none)) =
    heard_in routes old new buf (Refused BadRequest) false 16384 taken some few
    (no_head (subst (λ l. HasNoHead l) (sym (ap (λ l. buf ++ l) (rest_at_end new end) ∙ append-nil buf)) none) refl refl) (none_whole buf none)

pub few_of_head : (routes : Routes) (old new : Option (List ℕ)) → TakesAtMost old new 16384 → TakesFew routes old new
few_of_head routes old new taken = record { taken = taken.0; most = 16384; takes = taken.1; allows = for_head refl; few = taken.2 }

-- the fields of a head that was read
fields_of : (buf : List ℕ) (fields : List HeaderSpan) (spans : RequestSpans) (h : RequestHead) → length fields ≡ 64 → IsRequestWithin buf fields spans → IsRequestAt buf fields spans h → length h.fields ≤ 64
fields_of buf fields spans h room within at =
    omega (arith, room, within.section.count_fits, ap length at.fields, length-map h.fields name_and_value, length-map (take spans.headers fields) (header_bytes buf), length-take-le spans.headers fields within.section.count_fits)

head_in : (buf more : List ℕ) (fields : List HeaderSpan) (spans : RequestSpans) (h : RequestHead) → length fields ≡ 64 → IsRequestWithin buf fields spans → IsRequestAt buf fields spans h → spans.len ≤ 16384 → IsHead (buf ++ more) h (drop spans.len buf ++ more)
head_in buf more fields spans h room within at short = record {
  reads = ReadsRequest-append buf h (drop spans.len buf) more at.reads;
  short = omega (arith, at.len, short);
  few = fields_of buf fields spans h room within at;
}

lt_true : (a b : ℕ) → a < b → nat_lt a b ≡ true
lt_true a b less = grind (arith, nat_tests)

lt_false : (a b : ℕ) → b ≤ a → nat_lt a b ≡ false
lt_false a b less = grind (arith, nat_tests)

le_true : (a b : ℕ) → nat_le a b ≡ true → a ≤ b
le_true a b is = grind (arith, nat_tests)

le_false : (a b : ℕ) → nat_le a b ≡ false → b < a
le_false a b is = grind (arith, nat_tests)

-- the route that was found
pub found_at : {E : Type 0} (P : Option Route → Type 0) (r : Result (Option Route) E) (f found : Option Route) → r ≡ Ok f → f ≡ found → IfOk r P → P found
found_at P r f found is of p =
    let e : r ≡ Ok found = is ∙ ap (λ (x : Option Route). Ok x) of in
    subst (λ r. IfOk r P) e p

-- the greatest limit of a body
pub most_of : (r : Route) → (row_of r).most ≤ 4194304
most_of route.Publish = omega arith
most_of route.Act = omega arith
most_of (route.Stop id) = omega arith
most_of route.File = omega arith
most_of route.AskSites = omega arith
most_of (route.AskSite name version) = omega arith
most_of (route.AskFile digest) = omega arith
most_of route.Report = omega arith
most_of (route.Results computer) = omega arith

-- what is heard behind a good head
module _ (h : RequestHead) (rest : List ℕ) (count : ℕ) (r : Route) where
  long_is : (row_of r).most < count → heard_behind h rest count (Some r) ≡ Refused TooLong
  long_is long = rw (lt_true (row_of r).most count long) refl

  cut_is : count ≤ (row_of r).most → length rest < count → heard_behind h rest count (Some r) ≡ Refused BadRequest
  cut_is fits cut = rw (lt_false (row_of r).most count fits, lt_true (length rest) count cut) refl

  pub call_is : count ≤ (row_of r).most → count ≤ length rest → heard_behind h rest count (Some r) ≡ Call (row_of r).asking h.target (take count rest)
  call_is fits whole = rw (lt_false (row_of r).most count fits, lt_false (length rest) count whole) refl

  refused_takes : (row_of r).most < count → most_behind h count (Some r) ≡ 16384
  refused_takes long = rw (lt_true (row_of r).most count long) refl

  whole_takes : count ≤ (row_of r).most → most_behind h count (Some r) ≡ max 16384 (length (print_request h) + count)
  whole_takes fits = rw (lt_false (row_of r).most count fits) refl

-- bytes that came later change no earlier part
slice_more : (buf bytes : List ℕ) (span : Span) → IsWithin (length buf) span → span_bytes (buf ++ bytes) span ≡ span_bytes buf span
slice_more buf bytes span within = grind (arith, common_steps)

body_is : (buf bytes more : List ℕ) (len count : ℕ) → len ≤ length buf → len + count ≤ length (buf ++ bytes) → take count (drop len buf ++ (bytes ++ more)) ≡ slice_range (buf ++ bytes) len (len + count)
body_is buf bytes more len count within whole = grind (arith, common_steps)

slice_short : (buf : List ℕ) (a n : ℕ) → length (take n (drop a buf)) ≤ length buf
slice_short buf a n = grind (arith, common_steps)

-- what a head that was read says, as it was read
pub record ReadHead (old mid : Option (List ℕ)) (buf : List ℕ) (fields : List HeaderSpan) (spans : RequestSpans) : Type 0 where
  pub room : length fields ≡ 64
  pub taken : Consumes old mid buf
  pub short : length buf ≤ 16384
  pub within : IsRequestWithin buf fields spans
  pub head : RequestHead
  pub at : IsRequestAt buf fields spans head

module _ (routes : Routes) (old mid : Option (List ℕ)) (buf : List ℕ) (fields : List HeaderSpan) (spans : RequestSpans) (is : ReadHead old mid buf fields spans) where
  abbrev h : RequestHead
  h = is.head

  len_short : spans.len ≤ 16384
  len_short = omega (arith, is.within.section.len_fits, is.short)

  some_read : 0 < length buf
  some_read = omega (arith, is.at.reads.0.method.0, ap length is.at.method, slice_short buf spans.method.start (spans.method.end - spans.method.start))

  pub fields_at : (b : List ℕ) (fs : List HeaderSpan) (result : Option ℕ) → b ≡ buf → fs ≡ take spans.headers fields → IsClamped (request_length spans.version (map (header_bytes b) fs)) result → IsClamped (length_of h) result
  fields_at b fs result b_is fs_is clamped =
      let pairs : map (header_bytes b) fs ≡ map name_and_value h.fields = ap (λ b. map (header_bytes b) fs) b_is ∙ ap (map (header_bytes buf)) fs_is ∙ is.at.fields in
      subst (λ n. IsClamped n result) (ap (λ v. request_length v (map (header_bytes b) fs)) is.at.version ∙ ap (request_length h.minor) pairs) clamped

  pub route_at : (m p b b' : List ℕ) (found : Option Route) → b ≡ buf → b' ≡ buf → m ≡ span_bytes b spans.method → p ≡ span_bytes b' spans.path → FindsRoute routes m p found → FindsRoute routes h.method h.target found
  route_at m p b b' found b_is b'_is m_is p_is finds =
      let same : m ≡ h.method = m_is ∙ ap (λ b. span_bytes b spans.method) b_is ∙ is.at.method in
      let same' : p ≡ h.target = p_is ∙ ap (λ b. span_bytes b spans.path) b'_is ∙ is.at.path in
      subst (λ p. FindsRoute routes h.method p found) same' (subst (λ m. FindsRoute routes m p found) same finds)

  head_here : IsHead buf h (drop spans.len buf)
  head_here = record { reads = is.at.reads; short = omega (arith, is.at.len, len_short); few = fields_of buf fields spans h is.room is.within is.at }

  -- a refusal for which nothing more was read
  pub hears_bad : IsClamped (length_of h) None → IsHeard routes old mid buf (Refused BadRequest) false
  hears_bad none =
      heard_in routes old mid buf (Refused BadRequest) false 16384 is.taken some_read is.short
      (bad_fields h (drop spans.len buf ++ rest_of mid) (head_in buf (rest_of mid) fields spans h is.room is.within is.at len_short) none refl refl)
      (cut_whole buf h (drop spans.len buf) head_here (λ k e. absurd (none_some k (sym none ∙ e))))

  -- where memory ran out while the route was looked for
  pub few_here : TakesFew routes old mid
  few_here = record { taken = buf; most = 16384; takes = is.taken; allows = for_head refl; few = is.short }

  module _ (n : ℕ) (clamped : IsClamped (length_of h) (Some n)) where
    -- whether the body came with the head
    whole_here : (came : ℕ) → came ≡ length buf → (whole : Bool) → nat_le n (came - spans.len) ≡ whole → SaysWhole buf whole
    whole_here came same true is_whole = record {
      head = h;
      rest = drop spans.len buf;
      count = clamped.0;
      reads = head_here;
      states = clamped.1;
      follows = omega (arith, clamped.2, le_true n (came - spans.len) is_whole, same, is.short, length-drop spans.len buf);
    }
    whole_here came same false is_whole =
        cut_whole buf h (drop spans.len buf) head_here
        (λ k e. omega (arith, clamped.2, le_false n (came - spans.len) is_whole, same, same_in clamped.0 k (sym clamped.1 ∙ e), length-drop spans.len buf))

    pub hears_none : FindsRoute routes h.method h.target None → (came : ℕ) → came ≡ length buf → IsHeard routes old mid buf (Refused NoSuch) (nat_le n (came - spans.len))
    hears_none finds came same =
        heard_in routes old mid buf (Refused NoSuch) (nat_le n (came - spans.len)) 16384 is.taken some_read is.short
        (good_head h (drop spans.len buf ++ rest_of mid) clamped.0 None (head_in buf (rest_of mid) fields spans h is.room is.within is.at len_short) clamped.1 finds refl refl)
        (whole_here came same (nat_le n (came - spans.len)) refl)

    module _ (r : Route) (finds : FindsRoute routes h.method h.target (Some r)) where
      pub hears_long : (row_of r).most < n → (came : ℕ) → came ≡ length buf → IsHeard routes old mid buf (Refused TooLong) (nat_le n (came - spans.len))
      hears_long long came same =
          let rest = drop spans.len buf ++ rest_of mid in
          let more : (row_of r).most < clamped.0 = omega (arith, clamped.2, long) in
          heard_in routes old mid buf (Refused TooLong) (nat_le n (came - spans.len)) 16384 is.taken some_read is.short
          (good_head h rest clamped.0 (Some r) (head_in buf (rest_of mid) fields spans h is.room is.within is.at len_short) clamped.1 finds
          (sym (long_is h rest clamped.0 r more)) (sym (refused_takes h rest clamped.0 r more)))
          (whole_here came same (nat_le n (came - spans.len)) refl)

      -- where memory ran out while the body was read
      pub few_in_body : (new : Option (List ℕ)) → n ≤ (row_of r).most → TakesAtMost mid new (spans.len + n - length buf) → TakesFew routes old new
      few_in_body new fits more =
          let count : clamped.0 ≡ n = omega (arith, clamped.2, fits, most_of r) in
          record {
            taken = buf ++ more.0;
            most = max 16384 (length (print_request h) + clamped.0);
            takes = Consumes-trans old mid new buf more.0 is.taken more.1;
            allows = for_body h (drop spans.len buf ++ more.0) clamped.0 (Some r) (head_in buf more.0 fields spans h is.room is.within is.at len_short) clamped.1 finds
                (sym (whole_takes h (drop spans.len buf) clamped.0 r (omega (arith, count, fits))));
            few = omega (arith, more.2, count, is.at.len, is.short, length-append buf more.0);
          }

      module _ (new : Option (List ℕ)) (buf' : List ℕ) (fits : n ≤ (row_of r).most) (grew : Grew mid new buf buf') (few : length buf' ≤ max (length buf) (spans.len + n)) where
        all_taken : Consumes old new buf'
        all_taken = subst (λ l. Consumes old new l) (sym grew.2) (Consumes-trans old mid new buf grew.0 is.taken grew.1)

        same_count : clamped.0 ≡ n
        same_count = omega (arith, clamped.2, fits, most_of r)

        abbrev rest : List ℕ
        rest = drop spans.len buf ++ (grew.0 ++ rest_of new)

        in_limit : clamped.0 ≤ (row_of r).most
        in_limit = omega (arith, same_count, fits)

        taken_few : length buf' ≤ max 16384 (length (print_request h) + clamped.0)
        taken_few = omega (arith, few, same_count, is.at.len, is.short)

        -- what was read so far is the head and a part of what stands behind it
        later_head : IsHead buf' h (drop spans.len buf ++ grew.0)
        later_head = subst (λ l. IsHead l h (drop spans.len buf ++ grew.0)) (sym grew.2) (head_in buf grew.0 fields spans h is.room is.within is.at len_short)

        later_length : length (drop spans.len buf ++ grew.0) ≡ length buf' - spans.len
        later_length = omega (arith, ap length grew.2, length-append buf grew.0, length-append (drop spans.len buf) grew.0, length-drop spans.len buf, is.within.section.len_fits)

        cut_later : length buf' < spans.len + n → ¬ IsWhole buf'
        cut_later cut =
            cut_whole buf' h (drop spans.len buf ++ grew.0) later_head
            (λ k e. omega (arith, same_count, later_length, cut, same_in clamped.0 k (sym clamped.1 ∙ e), ap length grew.2, length-append buf grew.0, is.within.section.len_fits))

        -- where the door failed while the body was read
        pub begun_body : length buf' < spans.len + n → Consumes old new buf' × IsBegun routes buf'
        begun_body cut = (
          all_taken,
          in_body h (drop spans.len buf ++ grew.0) clamped.0 r later_head clamped.1 finds in_limit
              (omega (arith, same_count, later_length, cut, ap length grew.2, length-append buf grew.0, is.within.section.len_fits)),
        )

        hears_later : (heard : Heard) (whole : Bool) → heard ≡ heard_behind h rest clamped.0 (Some r) → SaysWhole buf' whole → IsHeard routes old new buf' heard whole
        hears_later heard whole same ends =
            let more = grew.0 ++ rest_of new in
            let all : buf ++ more ≡ buf' ++ rest_of new = sym (append_assoc buf grew.0 (rest_of new)) ∙ ap (λ l. l ++ rest_of new) (sym grew.2) in
            let some : 0 < length buf' = omega (arith, some_read, ap length grew.2, length-append buf grew.0) in
            let most = max 16384 (length (print_request h) + clamped.0) in
            heard_in routes old new buf' heard whole most all_taken some taken_few (subst (λ l. Hears routes l heard most) all
            (good_head h rest clamped.0 (Some r) (head_in buf more fields spans h is.room is.within is.at len_short) clamped.1 finds same (sym (whole_takes h rest clamped.0 r in_limit)))) ends

        pub hears_cut : IsAtEnd new → length buf' < spans.len + n → IsHeard routes old new buf' (Refused BadRequest) false
        hears_cut end cut =
            let none = ap length (rest_at_end new end) in
            let few : length rest < clamped.0 = omega (arith, same_count, none, cut, ap length grew.2, length-append buf grew.0, length-append (drop spans.len buf) (grew.0 ++ rest_of new), length-append grew.0 (rest_of new), length-drop spans.len buf) in
            hears_later (Refused BadRequest) false (sym (cut_is h rest clamped.0 r in_limit few)) (cut_later cut)

        path_later : span_bytes buf' spans.path ≡ h.target
        path_later = ap (λ l. span_bytes l spans.path) grew.2 ∙ slice_more buf grew.0 spans.path (is.within.path.0, omega (arith, is.within.path.1, is.within.section.len_fits)) ∙ is.at.path

        pub hears_call : spans.len + n ≤ length buf' → IsHeard routes old new buf' (Call (row_of r).asking (span_bytes buf' spans.path) (span_bytes buf' (record { start = spans.len; end = spans.len + n }))) true
        hears_call long =
            let many : clamped.0 ≤ length rest = omega (arith, same_count, long, ap length grew.2, length-append buf grew.0, length-append (drop spans.len buf) (grew.0 ++ rest_of new), length-append grew.0 (rest_of new), length-drop spans.len buf) in
            let body : take clamped.0 rest ≡ slice_range buf' spans.len (spans.len + n) =
            ap (λ k. take k rest) same_count ∙ body_is buf grew.0 (rest_of new) spans.len n is.within.section.len_fits (omega (arith, long, ap length grew.2)) ∙ ap (λ l. slice_range l spans.len (spans.len + n)) (sym grew.2) in
            let same : Call (row_of r).asking (span_bytes buf' spans.path) (slice_range buf' spans.len (spans.len + n)) ≡ Call (row_of r).asking h.target (take clamped.0 rest) =
            ap (λ p. Call (row_of r).asking p (slice_range buf' spans.len (spans.len + n))) path_later ∙ ap (Call (row_of r).asking h.target) (sym body) in
            hears_later _ true (same ∙ sym (call_is h rest clamped.0 r in_limit many))
            (record { head = h; rest = drop spans.len buf ++ grew.0; count = clamped.0; reads = later_head; states = clamped.1; follows = omega (arith, same_count, later_length, long) })
