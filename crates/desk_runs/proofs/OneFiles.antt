-- What a relay answers for a file is one thing, where its link tells one thing and doesn't fail, and memory suffices.
use Rattle.std.proofs.Common.{◌≡◌, ◌≢◌, ℕ, List, [], Option, None, Some, inl, inr, sym, ap, ap₂, ◌∙◌, subst}
use Rattle.desk_door.specs.Links.{AsksOnce, LinkView}
use Rattle.desk_door.specs.declared.link.Exchanged.{Exchanged}
use Rattle.desk_door.specs.declared.link.Exchanged.TheVariants as of_exchange
use Rattle.relay_cache.specs.CachedFiles.{CacheState, cached}
use Rattle.route_rules.specs.declared.method.Asking.TheVariants.{Get}
use Rattle.route_rules.specs.Routes.{file_path}
use Rattle.desk_http.specs.Asked.{ask_text}
use Rattle.http_replies.specs.declared.answer.Answer.{Answer}
use Rattle.desk_hosts.specs.declared.file.Came.{Came}
use Rattle.desk_hosts.specs.declared.file.Came.TheVariants as of_came
use Rattle.desk_hosts.specs.HostCalls.{no_memory}
use Rattle.desk_hosts.specs.RelayFiles.{AsksFile, ComesOf, FilesTell, KeepsGiven, ReadsCame, TellsBy, TellsBytes, TellsLooked, came_of, given, no_file, passed_on}
use Rattle.desk_runs.specs.OneExchanges.{LinkTold, TellAlike, TellsLink}
use Rattle.desk_runs.proofs.OneExchanges.{OneReply, none_failed, reply_once}

-- ---- what comes from upstream
abbrev short : Came
short = of_came.Nothing no_memory

abbrev file_request : List ℕ → List ℕ
file_request digest = ask_text Get (file_path digest) []

record SameCame (it it' : Came) (new new' : LinkView) : Type 0 where
  same : it ≡ it'
  alike : TellAlike new new'

module _ (law : OneReply) where
  read_once : (bytes : List ℕ) (it it' : Came) → ReadsCame bytes it → ReadsCame bytes it' → it ≡ it'
  read_once bytes it it' (inl (none, is)) (inl (none', is')) = is ∙ sym is'
  read_once bytes it it' (inl (none, is)) (inr (status, body, reply, is')) = absurd (none status body reply)
  read_once bytes it it' (inr (status, body, reply, is)) (inl (none', is')) = absurd (none' status body reply)
  read_once bytes it it' (inr (status, body, reply, is)) (inr (code, rest, reply', is')) =
      let same = law bytes status code body rest reply reply' in
      is ∙ ap₂ (λ s b. came_of s b) same.0 same.1 ∙ sym is'

  exchanged_once : (digest : List ℕ) (told : LinkTold) (old old' new new' : LinkView) (it it' : Came) (came came' : Exchanged) → TellsLink told old → TellsLink told old' → it ≢ short → it' ≢ short
      → new.faults ≡ old.faults → new'.faults ≡ old'.faults → AsksOnce (file_request digest) old came new → ComesOf came it
      → AsksOnce (file_request digest) old' came' new' → ComesOf came' it' → SameCame it it' new new'
  exchanged_once digest told old old' new new' it it' of_exchange.Memory came' tells tells' ample ample' steady steady' asks is asks' is' = absurd (ample is)
  exchanged_once digest told old old' new new' it it' of_exchange.Failed came' tells tells' ample ample' steady steady' asks is asks' is' =
      absurd (none_failed (file_request digest) told old new tells steady asks)
  exchanged_once digest told old old' new new' it it' (of_exchange.Reply bytes) of_exchange.Memory tells tells' ample ample' steady steady' asks is asks' is' = absurd (ample' is')
  exchanged_once digest told old old' new new' it it' (of_exchange.Reply bytes) of_exchange.Failed tells tells' ample ample' steady steady' asks is asks' is' =
      absurd (none_failed (file_request digest) told old' new' tells' steady' asks')
  exchanged_once digest told old old' new new' it it' (of_exchange.Reply bytes) (of_exchange.Reply bytes') tells tells' ample ample' steady steady' asks (inl memory) asks' is' = absurd (ample memory)
  exchanged_once digest told old old' new new' it it' (of_exchange.Reply bytes) (of_exchange.Reply bytes') tells tells' ample ample' steady steady' asks (inr reads) asks' (inl memory) = absurd (ample' memory)
  exchanged_once digest told old old' new new' it it' (of_exchange.Reply bytes) (of_exchange.Reply bytes') tells tells' ample ample' steady steady' asks (inr reads) asks' (inr reads') =
      let once = reply_once (file_request digest) bytes bytes' told old old' new new' tells tells' steady steady' asks asks' in
      let P : List ℕ → Type 0 = λ b. ReadsCame b it in
      record { same = read_once bytes' it it' (subst P once.same reads) reads'; alike = once.alike }

  came_once : (digest : List ℕ) (told : LinkTold) (old old' new new' : LinkView) (it it' : Came) → TellsLink told old → TellsLink told old' → it ≢ short → it' ≢ short
      → new.faults ≡ old.faults → new'.faults ≡ old'.faults → AsksFile old digest it new → AsksFile old' digest it' new' → SameCame it it' new new'
  came_once digest told old old' new new' it it' tells tells' ample ample' steady steady' (inl (memory, same)) again = absurd (ample memory)
  came_once digest told old old' new new' it it' tells tells' ample ample' steady steady' (inr asks) (inl (memory, same)) = absurd (ample' memory)
  came_once digest told old old' new new' it it' tells tells' ample ample' steady steady' (inr (came, asks, is)) (inr (came', asks', is')) =
      exchanged_once digest told old old' new new' it it' came came' tells tells' ample ample' steady steady' asks is asks' is'

-- ---- what is answered, and what is kept
-- what the link tells, and the files of the cache, if there is one
pub record FilesTold : Type 0 where
  pub link : LinkTold
  pub cache : Option CacheState

pub record FilesStand (told : FilesTold) (files : FilesTell) : Type 0 where
  pub link : TellsLink told.link files.link
  pub cache : files.cache ≡ told.cache

pub record SameFiles (it it' : Answer) (new new' : FilesTell) : Type 0 where
  pub same : it ≡ it'
  pub told : FilesTold
  pub first : FilesStand told new
  pub second : FilesStand told new'

-- the links tell one thing, and one thing is kept
record SameLooked (it it' : Answer) (new new' : LinkView) (after after' : CacheState) : Type 0 where
  same : it ≡ it'
  alike : TellAlike new new'
  kept : after ≡ after'

kept_short : (digest : List ℕ) (cache after : CacheState) (gave : Came) (it : Answer) → it ≢ no_memory → KeepsGiven cache digest (no_file gave) (given digest gave) it after → gave ≢ short
kept_short digest cache after gave it ample keeps is =
    let K : Came → Type 0 = λ g. KeepsGiven cache digest (no_file g) (given digest g) it after in
    ample (subst K is keeps).0

passed_short : (digest : List ℕ) (gave : Came) (it : Answer) → it ≢ no_memory → it ≡ passed_on digest gave → gave ≢ short
passed_short digest gave it ample same is = ample (same ∙ ap (λ (g : Came). passed_on digest g) is)

record SameKept (it it' : Answer) (after after' : CacheState) : Type 0 where
  same : it ≡ it'
  kept : after ≡ after'

kept_once : (digest : List ℕ) (cache after after' : CacheState) (otherwise it it' : Answer) (o : Option (List ℕ)) → it ≢ no_memory → it' ≢ no_memory
    → KeepsGiven cache digest otherwise o it after → KeepsGiven cache digest otherwise o it' after' → SameKept it it' after after'
kept_once digest cache after after' otherwise it it' None ample ample' (is, stays) (is', stays') = record { same = is ∙ sym is'; kept = stays ∙ sym stays' }
kept_once digest cache after after' otherwise it it' (Some bytes) ample ample' (inl (is, keeps)) (inl (is', keeps')) = record { same = is ∙ sym is'; kept = keeps ∙ sym keeps' }
kept_once digest cache after after' otherwise it it' (Some bytes) ample ample' (inl both) (inr (memory, stays)) = absurd (ample' memory)
kept_once digest cache after after' otherwise it it' (Some bytes) ample ample' (inr (memory, stays)) again = absurd (ample memory)

bytes_once : (bytes : List ℕ) (it it' : Answer) → it ≢ no_memory → it' ≢ no_memory → TellsBytes bytes it → TellsBytes bytes it' → it ≡ it'
bytes_once bytes it it' ample ample' (inl is) (inl is') = is ∙ sym is'
bytes_once bytes it it' ample ample' (inl is) (inr memory) = absurd (ample' memory)
bytes_once bytes it it' ample ample' (inr memory) again = absurd (ample memory)

stay_alike : (told : LinkTold) (old old' new new' : LinkView) → TellsLink told old → TellsLink told old' → new ≡ old → new' ≡ old' → TellAlike new new'
stay_alike told old old' new new' tells tells' same same' = let T : LinkView → Type 0 = λ l. TellsLink told l in (told, subst T (sym same) tells, subst T (sym same') tells')

module _ (law : OneReply) (digest : List ℕ) (told : LinkTold) (old old' : LinkView) (tells : TellsLink told old) (tells' : TellsLink told old') (it it' : Answer) (ample : it ≢ no_memory) (ample' : it' ≢ no_memory) where
  looked_once : (o : Option (List ℕ)) (cache : CacheState) (new new' : LinkView) (after after' : CacheState) → new.faults ≡ old.faults → new'.faults ≡ old'.faults
      → TellsLooked digest o old cache it new after → TellsLooked digest o old' cache it' new' after' → SameLooked it it' new new' after after'
  looked_once (Some bytes) cache new new' after after' steady steady' (kept, same) (kept', same') = record {
    same = bytes_once bytes it it' ample ample' kept.answers kept'.answers;
    alike = stay_alike told old old' new new' tells tells' same same';
    kept = kept.first ∙ sym kept'.first;
  }
  looked_once None cache new new' after after' steady steady' fetches fetches' =
      let came = came_once law digest told old old' new new' fetches.gave fetches'.gave tells tells' (kept_short digest cache after fetches.gave it ample fetches.keeps)
      (kept_short digest cache after' fetches'.gave it' ample' fetches'.keeps) steady steady' fetches.asks fetches'.asks in
      let K : Came → Type 0 = λ g. KeepsGiven cache digest (no_file g) (given digest g) it after in
      let once = kept_once digest cache after after' (no_file fetches'.gave) it it' (given digest fetches'.gave) ample ample' (subst K came.same fetches.keeps) fetches'.keeps in
      record { same = once.same; alike = came.alike; kept = once.kept }

  by_cache : (cache : Option CacheState) (new new' : FilesTell) → new.link.faults ≡ old.faults → new'.link.faults ≡ old'.faults
      → TellsBy digest cache old it new → TellsBy digest cache old' it' new' → SameFiles it it' new new'
  by_cache None new new' steady steady' (passes, none) (passes', none') =
      let came = came_once law digest told old old' new.link new'.link passes.gave passes'.gave tells tells' (passed_short digest passes.gave it ample passes.answers)
      (passed_short digest passes'.gave it' ample' passes'.answers) steady steady' passes.asks passes'.asks in
      let told_now : FilesTold = record { link = came.alike.0; cache = None } in
      record {
        same = passes.answers ∙ ap (λ (g : Came). passed_on digest g) came.same ∙ sym passes'.answers;
        told = told_now;
        first = record { link = came.alike.1; cache = none };
        second = record { link = came.alike.2; cache = none' };
      }
  by_cache (Some cache) new new' steady steady' (after, looks, is) (after', looks', is') =
      let once = looked_once (cached digest cache.files) cache new.link new'.link after after' steady steady' looks looks' in
      let told_now : FilesTold = record { link = once.alike.0; cache = Some after } in
      record {
        same = once.same;
        told = told_now;
        first = record { link = once.alike.1; cache = is };
        second = record { link = once.alike.2; cache = is' ∙ ap (λ (c : CacheState). Some c) (sym once.kept) };
      }

pub file_once : OneReply → (digest : List ℕ) (told : FilesTold) (old old' new new' : FilesTell) (it it' : Answer) → FilesStand told old → FilesStand told old' → it ≢ no_memory → it' ≢ no_memory
    → new.link.faults ≡ old.link.faults → new'.link.faults ≡ old'.link.faults → TellsBy digest old.cache old.link it new → TellsBy digest old'.cache old'.link it' new' → SameFiles it it' new new'
file_once law digest told old old' new new' it it' stands stands' ample ample' steady steady' tells tells' =
    let T : Option CacheState → Type 0 = λ c. TellsBy digest c old.link it new in
    let U : Option CacheState → Type 0 = λ c. TellsBy digest c old'.link it' new' in
    by_cache law digest told.link old.link old'.link stands.link stands'.link it it' ample ample' told.cache new new' steady steady' (subst T stands.cache tells) (subst U stands'.cache tells')
