-- What comes of a request is one thing, where links tell one thing and don't fail.
use Rattle.std.proofs.Common.{◌≡◌, ◌≢◌, ◌-◌, ◌^◌, ◌<◌, ◌≤◌, ℕ, List, ◌∷◌, ◌++◌, [], None, Some, Result, Ok, Err, inl, inr, refl, sym, ap, ◌∙◌, subst, arith}
use Rattle.std.specs.Prelude.{is_some}
use Rattle.std.specs.declared.option.Option.{Option}
use Rattle.desk_base.specs.Counts.{Rose}
use Rattle.desk_door.specs.declared.asked.Asked.{Asked}
use Rattle.desk_door.specs.declared.link.Exchanged.{Exchanged}
use Rattle.desk_door.specs.declared.link.Exchanged.TheVariants as of_exchange
use Rattle.desk_door.specs.Links.{AsksOnce, LinkView}
use Rattle.desk_door.specs.Lists.{with_first, with_last}
use Rattle.desk_http.specs.Replied.{IsReply}
use Rattle.desk_rounds.specs.declared.asking.Miss.{Miss}
use Rattle.desk_rounds.specs.declared.asking.Miss.TheVariants as miss
use Rattle.desk_rounds.specs.Asking.{AsksFor, IsBad, IsGood, Means}
use Rattle.desk_rounds.specs.Ways.{Exchanges, TurnsBy, TurnsTo, Way, switched, switched_now, way}
use Rattle.desk_runs.specs.OneExchanges.{LinkTold, TellAlike, TellsLink}
use Rattle.desk_runs.proofs.OneReplies.{OneMeaning}

-- the law that bytes are one reply
abbrev pub OneReply : Type 0
OneReply = (bytes : List ℕ) (status code : ℕ) (body rest : List ℕ) → IsReply bytes status body → IsReply bytes code rest → (status ≡ code) × (body ≡ rest)

-- a count that could rise and didn't
pub not_risen : (a b : ℕ) → a < 2 ^ 64 - 1 → b ≡ a → Rose a b → ⊥
not_risen a b below same rose = omega arith

-- the first reply that is to come
first_reply : (old new : Option (List (List ℕ))) (bytes : List ℕ) (coming : List (List ℕ)) → old ≡ Some coming → old ≡ with_first bytes new
    → (left : List (List ℕ)) × (coming ≡ bytes ∷ left) × (new ≡ Some left)
first_reply old None bytes coming tells is = let none : ◌≡◌ {A = Option (List (List ℕ))} (Some coming) None = sym tells ∙ is in absurd (cc)
first_reply old (Some left) bytes coming tells is =
    let both : ◌≡◌ {A = Option (List (List ℕ))} (Some coming) (Some (bytes ∷ left)) = sym tells ∙ is in
    let same : coming ≡ bytes ∷ left = cc in
    (left, same, refl)

-- one request more
one_more_asked : (request : Asked) (old new : Option (List Asked)) (before : List Asked) → old ≡ Some before → new ≡ with_last request old → new ≡ Some (before ++ request ∷ [])
one_more_asked request old new before tells is = is ∙ ap (λ (o : Option (List Asked)). with_last request o) tells

asked_so : (request : List ℕ) (upstream other : Option (List ℕ)) → upstream ≡ other → ◌≡◌ {A = Asked} (record { upstream = upstream; request = request }) (record { upstream = other; request = request })
asked_so request upstream other same = λ i. record { upstream = same i; request = request }

-- a link that replied tells this then
abbrev replied_told : List ℕ → LinkTold → List (List ℕ) → LinkTold
replied_told request told left =
    record { upstream = told.upstream; asked = told.asked ++ record { upstream = told.upstream; request = request } ∷ []; replies = left }

record Replied (request bytes : List ℕ) (told : LinkTold) (new : LinkView) : Type 0 where
  left : List (List ℕ)
  first : told.replies ≡ bytes ∷ left
  tells : TellsLink (replied_told request told left) new

replied : (request bytes : List ℕ) (told : LinkTold) (old new : LinkView) → TellsLink told old → new.faults ≡ old.faults → AsksOnce request old (of_exchange.Reply bytes) new
    → Replied request bytes told new
replied request bytes told old new tells steady asks =
    let reply = first_reply old.replies new.replies bytes told.replies tells.replies asks.replies in
    let rises = tells.rises in
    record {
      left = reply.0;
      first = reply.1;
      tells = record {
        upstream = asks.upstream ∙ tells.upstream;
        asked = one_more_asked (record { upstream = old.upstream; request = request }) old.asked new.asked told.asked tells.asked asks.asked
            ∙ ap (λ (a : Asked). Some (told.asked ++ a ∷ [])) (asked_so request old.upstream told.upstream tells.upstream);
        replies = reply.2;
        rises = omega (arith, rises, steady);
      };
    }

head_same : (x y : List ℕ) (xs ys coming : List (List ℕ)) → coming ≡ x ∷ xs → coming ≡ y ∷ ys → x ≡ y
head_same x y xs ys coming a b = let same : ◌≡◌ {A = List (List ℕ)} (x ∷ xs) (y ∷ ys) = sym a ∙ b in cc

tail_same : (x y : List ℕ) (xs ys coming : List (List ℕ)) → coming ≡ x ∷ xs → coming ≡ y ∷ ys → xs ≡ ys
tail_same x y xs ys coming a b = let same : ◌≡◌ {A = List (List ℕ)} (x ∷ xs) (y ∷ ys) = sym a ∙ b in cc

-- two replies to one request are one, and the links tell one thing then
pub record SameReply (bytes bytes' : List ℕ) (new new' : LinkView) : Type 0 where
  pub same : bytes ≡ bytes'
  pub alike : TellAlike new new'

pub reply_once : (request bytes bytes' : List ℕ) (told : LinkTold) (old old' new new' : LinkView) → TellsLink told old → TellsLink told old' → new.faults ≡ old.faults → new'.faults ≡ old'.faults
    → AsksOnce request old (of_exchange.Reply bytes) new → AsksOnce request old' (of_exchange.Reply bytes') new' → SameReply bytes bytes' new new'
reply_once request bytes bytes' told old old' new new' tells tells' steady steady' asks asks' =
    let one = replied request bytes told old new tells steady asks in
    let other = replied request bytes' told old' new' tells' steady' asks' in
    let left : other.left ≡ one.left = tail_same bytes' bytes other.left one.left told.replies other.first one.first in
    let Tells : List (List ℕ) → Type 0 = λ l. TellsLink (replied_told request told l) new' in
    record {
      same = head_same bytes bytes' one.left other.left told.replies one.first other.first;
      alike = (replied_told request told one.left, one.tells, subst Tells left other.tells);
    }

-- the exchange didn't fail
pub none_failed : (request : List ℕ) (told : LinkTold) (old new : LinkView) → TellsLink told old → new.faults ≡ old.faults → AsksOnce request old of_exchange.Failed new → ⊥
none_failed request told old new tells steady asks = not_risen old.faults new.faults tells.rises steady (asks.counts.rose refl)

-- ---- requests, for which a second upstream may be turned to
-- the upstream that is open was asked, and no other was turned to
pub record AsksFirst (request : List ℕ) (old : Way) (it : Exchanged) (new : Way) : Type 0 where
  pub asks : AsksOnce request old.link it new.link
  pub second : new.second ≡ old.second

second_later : (request second : List ℕ) (old new : LinkView) (it : Exchanged) → TurnsTo request second old it new → old.faults ≤ new.faults
second_later request second old new it (inl (memory, same)) = let e = ap (λ (l : LinkView). l.faults) same in omega (arith, e)
second_later request second old new it (inr asks) = asks.counts.later

turned_later : (request : List ℕ) (o : Option (List ℕ)) (old : LinkView) (it : Exchanged) (new : Way) → TurnsBy request o old it new → old.faults ≤ new.link.faults
turned_later request None old it new (is, same) = let e = ap (λ (w : Way). w.link.faults) same in omega (arith, e)
turned_later request (Some second) old it new (turns, none) = second_later request second old new.link it turns

-- an exchange that failed was counted
failed_then : (a b c : ℕ) → a < 2 ^ 64 - 1 → c ≡ a → Rose a b → b ≤ c → ⊥
failed_then a b c below same rose later = omega arith

none_switched : (o : Option (List ℕ)) → switched_now (is_some o) o ≡ []
none_switched None = refl
none_switched (Some second) = refl

-- then nothing is said of it
pub unswitched : (old new : Way) → new.second ≡ old.second → switched old new ≡ []
unswitched old new same =
    let None_said : Option (List ℕ) → Type 0 = λ o. switched_now (is_some old.second) o ≡ [] in
    subst None_said (sym same) (none_switched old.second)

first_asked : (request : List ℕ) (old new : Way) (first it : Exchanged) (link : LinkView) → AsksOnce request old.link first link → it ≡ first → new ≡ way link old.second → AsksFirst request old it new
first_asked request old new first it link asks is same =
    let It : Exchanged → Type 0 = λ i. AsksFirst request old i new in
    let To : Way → Type 0 = λ w. AsksFirst request old first w in
    subst It (sym is) (subst To (sym same) (record { asks = asks; second = refl }))

asks_first : (request : List ℕ) (told : LinkTold) (old new : Way) (it : Exchanged) → TellsLink told old.link → new.link.faults ≡ old.link.faults → Exchanges request old it new → AsksFirst request old it new
asks_first request told old new it tells steady (of_exchange.Failed, link, asks, turns) =
    absurd (failed_then old.link.faults link.faults new.link.faults tells.rises steady (asks.counts.rose refl) (turned_later request old.second link it new turns))
asks_first request told old new it tells steady (of_exchange.Memory, link, asks, (is, same)) = first_asked request old new of_exchange.Memory it link asks is same
asks_first request told old new it tells steady (of_exchange.Reply bytes, link, asks, (is, same)) = first_asked request old new (of_exchange.Reply bytes) it link asks is same

-- the exchange didn't fail
none_missed : (request : List ℕ) (told : LinkTold) (old new : Way) → TellsLink told old.link → new.link.faults ≡ old.link.faults → Exchanges request old of_exchange.Failed new → ⊥
none_missed request told old new tells steady asks =
    none_failed request told old.link new.link tells steady (asks_first request told old new of_exchange.Failed tells steady asks).asks

module _ (law : OneReply) {V : Type 0} (means : Means V) (one_meaning : OneMeaning means) where
  good_once : (bytes : List ℕ) (value other : V) → IsGood means bytes value → IsGood means bytes other → value ≡ other
  good_once bytes value other (status, body, is, it) (code, rest, is', it') =
      let same = law bytes code status rest body is' is in
      let P : ℕ → Type 0 = λ s. means s rest other in
      let Q : List ℕ → Type 0 = λ b. means status b other in
      one_meaning status body value other it (subst Q same.1 (subst P same.0 it'))

  good_not_bad : (bytes : List ℕ) (value : V) → IsGood means bytes value → IsBad means bytes → ⊥
  good_not_bad bytes value (status, body, is, it) (inl none) = none status body is
  good_not_bad bytes value (status, body, is, it) (inr (code, rest, is', nothing)) =
      let same = law bytes status code body rest is is' in
      let P : ℕ → Type 0 = λ s. means s body value in
      let Q : List ℕ → Type 0 = λ b. means code b value in
      nothing value (subst Q same.1 (subst P same.0 it))

  -- what two requests come to that are one
  pub record SameCame (came came' : Result V Miss) (old old' new new' : Way) : Type 0 where
    pub same : came ≡ came'
    pub alike : TellAlike new.link new'.link
    pub second : new.second ≡ old.second
    pub second' : new'.second ≡ old'.second

  good_came : (request bytes bytes' : List ℕ) (told : LinkTold) (old old' new new' : Way) (value value' : V) → TellsLink told old.link → TellsLink told old'.link → new.link.faults ≡ old.link.faults → new'.link.faults ≡ old'.link.faults
      → AsksFirst request old (of_exchange.Reply bytes) new → IsGood means bytes value → AsksFirst request old' (of_exchange.Reply bytes') new' → IsGood means bytes' value' → SameCame (Ok value) (Ok value') old old' new new'
  good_came request bytes bytes' told old old' new new' value value' tells tells' steady steady' asks good asks' good' =
      let once = reply_once request bytes bytes' told old.link old'.link new.link new'.link tells tells' steady steady' asks.asks asks'.asks in
      let P : List ℕ → Type 0 = λ b. IsGood means b value in
      record { same = ap (λ (v : V). Ok v) (good_once bytes' value value' (subst P once.same good) good'); alike = once.alike; second = asks.second; second' = asks'.second }

  bad_came : (request bytes bytes' : List ℕ) (told : LinkTold) (old old' new new' : Way) → TellsLink told old.link → TellsLink told old'.link → new.link.faults ≡ old.link.faults → new'.link.faults ≡ old'.link.faults
      → AsksFirst request old (of_exchange.Reply bytes) new → AsksFirst request old' (of_exchange.Reply bytes') new' → SameCame (Err miss.BadAnswer) (Err miss.BadAnswer) old old' new new'
  bad_came request bytes bytes' told old old' new new' tells tells' steady steady' asks asks' =
      let once = reply_once request bytes bytes' told old.link old'.link new.link new'.link tells tells' steady steady' asks.asks asks'.asks in
      record { same = refl; alike = once.alike; second = asks.second; second' = asks'.second }

  -- one reply that is good and bad
  unlike : (request bytes bytes' : List ℕ) (told : LinkTold) (old old' new new' : Way) (value : V) → TellsLink told old.link → TellsLink told old'.link → new.link.faults ≡ old.link.faults → new'.link.faults ≡ old'.link.faults
      → AsksFirst request old (of_exchange.Reply bytes) new → IsGood means bytes value → AsksFirst request old' (of_exchange.Reply bytes') new' → IsBad means bytes' → ⊥
  unlike request bytes bytes' told old old' new new' value tells tells' steady steady' asks good asks' bad =
      let once = reply_once request bytes bytes' told old.link old'.link new.link new'.link tells tells' steady steady' asks.asks asks'.asks in
      let P : List ℕ → Type 0 = λ b. IsGood means b value in
      good_not_bad bytes' value (subst P once.same good) bad

  pub asked_once : (request : List ℕ) (told : LinkTold) (old old' new new' : Way) (came came' : Result V Miss) → TellsLink told old.link → TellsLink told old'.link → new.link.faults ≡ old.link.faults → new'.link.faults ≡ old'.link.faults
      → came ≢ Err miss.Memory → came' ≢ Err miss.Memory → AsksFor request means old came new → AsksFor request means old' came' new' → SameCame came came' old old' new new'
  asked_once request told old old' new new' (Err miss.Memory) came' tells tells' steady steady' ample ample' asks asks' = absurd (ample refl)
  asked_once request told old old' new new' (Err miss.NoAnswer) came' tells tells' steady steady' ample ample' asks asks' = absurd (none_missed request told old new tells steady asks)
  asked_once request told old old' new new' (Ok value) (Err miss.Memory) tells tells' steady steady' ample ample' asks asks' = absurd (ample' refl)
  asked_once request told old old' new new' (Ok value) (Err miss.NoAnswer) tells tells' steady steady' ample ample' asks asks' = absurd (none_missed request told old' new' tells' steady' asks')
  asked_once request told old old' new new' (Ok value) (Err miss.BadAnswer) tells tells' steady steady' ample ample' (bytes, asks, good) (bytes', asks', bad) =
      absurd (unlike request bytes bytes' told old old' new new' value tells tells' steady steady' (asks_first request told old new (of_exchange.Reply bytes) tells steady asks) good
      (asks_first request told old' new' (of_exchange.Reply bytes') tells' steady' asks') bad)
  asked_once request told old old' new new' (Ok value) (Ok value') tells tells' steady steady' ample ample' (bytes, asks, good) (bytes', asks', good') =
      good_came request bytes bytes' told old old' new new' value value' tells tells' steady steady' (asks_first request told old new (of_exchange.Reply bytes) tells steady asks) good
      (asks_first request told old' new' (of_exchange.Reply bytes') tells' steady' asks') good'
  asked_once request told old old' new new' (Err miss.BadAnswer) (Err miss.Memory) tells tells' steady steady' ample ample' asks asks' = absurd (ample' refl)
  asked_once request told old old' new new' (Err miss.BadAnswer) (Err miss.NoAnswer) tells tells' steady steady' ample ample' asks asks' = absurd (none_missed request told old' new' tells' steady' asks')
  asked_once request told old old' new new' (Err miss.BadAnswer) (Ok value') tells tells' steady steady' ample ample' (bytes, asks, bad) (bytes', asks', good') =
      absurd (unlike request bytes' bytes told old' old new' new value' tells' tells steady' steady (asks_first request told old' new' (of_exchange.Reply bytes') tells' steady' asks') good'
      (asks_first request told old new (of_exchange.Reply bytes) tells steady asks) bad)
  asked_once request told old old' new new' (Err miss.BadAnswer) (Err miss.BadAnswer) tells tells' steady steady' ample ample' (bytes, asks, bad) (bytes', asks', bad') =
      bad_came request bytes bytes' told old old' new new' tells tells' steady steady' (asks_first request told old new (of_exchange.Reply bytes) tells steady asks)
      (asks_first request told old' new' (of_exchange.Reply bytes') tells' steady' asks')
