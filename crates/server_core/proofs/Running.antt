-- One request more.
use Rattle.std.proofs.Common.{◌≡◌, ℕ, ◌+◌, ◌<◌, List, [], ◌∷◌, ◌++◌, length, take, get_or, refl, sym, ap, ◌∙◌, subst}
use Rattle.std.specs.declared.option.Option.{Option}
use Rattle.std.proofs.lemmas.List.{take_more}
use Rattle.desk_base.specs.Counts.{CountsFaults}
use Rattle.desk_keep.specs.declared.change.Change.{Change}
use Rattle.server_core.specs.declared.limits.Limits.{Limits}
use Rattle.server_text.specs.declared.reply.Reply.{Reply}
use Rattle.server_text.specs.declared.reply.Reply.TheVariants.{KeeperFault}
use Rattle.server_text.specs.declared.request.Request.{Request}
use Rattle.server_core.specs.CallAnswers.{Answers, AnswersAll, AreTables, CountsReplies}
use Rattle.server_text.specs.Entries.{Entry}

pub all_push : (limits : Limits) (accepted : List Entry) (asked : List Request) (replies : List Reply) (last : List Entry) (q : Request) (a : Reply) (later : List Entry) → AnswersAll limits accepted asked replies last → Answers limits last q a later
    → AnswersAll limits accepted (asked ++ q ∷ []) (replies ++ a ∷ []) later
all_push limits accepted [] [] last q a later h one = let P : List Entry → Type 0 = λ l. Answers limits l q a later in (later, subst P h one, refl)
all_push limits accepted [] (b ∷ replies) last q a later h one = absurd h
all_push limits accepted (p ∷ asked) [] last q a later h one = absurd h
all_push limits accepted (p ∷ asked) (b ∷ replies) last q a later h one = (h.0, h.1, all_push limits h.0 asked replies last q a later h.2 one)

-- the replies so far, and what is accepted then
abbrev pub Ran : Limits → List Entry → List Request → List Reply → Option (List Change) → Type 0
Ran limits accepted asked replies told = (last : List Entry) × AnswersAll limits accepted asked replies last × AreTables told last

pub ran_more : (limits : Limits) (accepted : List Entry) (all : List Request) (i : ℕ) (d q : Request) (replies more : List Reply) (a : Reply) (old new : Option (List Change)) → i < length all → q ≡ get_or all i d → more ≡ replies ++ a ∷ []
    → Ran limits accepted (take i all) replies old → ((list : List Entry) → AreTables old list → (later : List Entry) × Answers limits list q a later × AreTables new later) → Ran limits accepted (take (i + 1) all) more new
ran_more limits accepted all i d q replies more a old new within is pushed ran one =
    let next = one ran.0 ran.2 in
    let asked : take (i + 1) all ≡ take i all ++ q ∷ [] = take_more all i d within ∙ ap (λ r. take i all ++ r ∷ []) (sym is) in
    let Q : List Reply → Type 0 = λ l. Ran limits accepted (take (i + 1) all) l new in
    let R : List Request → Type 0 = λ l. Ran limits accepted l (replies ++ a ∷ []) new in
    subst Q (sym pushed) (subst R (sym asked) (next.0, all_push limits accepted (take i all) replies ran.0 q a next.0 ran.1 next.1, next.2))

pub counts_push : (replies : List Reply) (answered : Reply) (old mid new : ℕ) → CountsReplies replies old mid → CountsFaults (answered ≡ KeeperFault) mid new → CountsReplies (replies ++ answered ∷ []) old new
counts_push [] answered old mid new so_far one = let P : ℕ → Type 0 = λ n. CountsFaults (answered ≡ KeeperFault) n new in (new, subst P so_far one, refl)
counts_push (first ∷ replies) answered old mid new so_far one = (so_far.0, so_far.1, counts_push replies answered so_far.0 mid new so_far.2 one)
