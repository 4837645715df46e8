-- Texts of a site that are read once.
use Rattle.std.proofs.Common.{◌≡◌, ◌≢◌, List, ℕ, inl, inr, Option, Some, None, Result, Ok, Err, refl, sym, subst}
use Rattle.std.specs.Prelude.{IfOk}
use Rattle.rel_eval.specs.declared.question.Question.{Question}
use Rattle.rel_eval.specs.declared.refusal.Refusal.{Refusal}
use Rattle.rel_eval.specs.declared.refusal.Refusal.TheVariants.{At, NotDefined, Memory}
use Rattle.rel_eval.specs.Answers.{Prepares}
use Rattle.rel_eval.specs.Questions.{IsPlanOf, plan_of}
use Rattle.agent_attempt.specs.ReadTexts.{IsNoQuestion, IsReadAs}

-- ---- questions
pub no_question : (text own : List ℕ) (refusal : Refusal) → text ≡ own → refusal ≢ Memory → Prepares text (Err refusal) → IsNoQuestion own
no_question text own (At kind place) e other h = subst IsNoQuestion e (inl (kind, place, h))
no_question text own (NotDefined place words) e other h = subst IsNoQuestion e (inr (place, words, h))
no_question text own Memory e other h = absurd (other refl)

pub found_none : {E : Type 0} (text : List ℕ) (result : Result (Option Question) E) → result ≡ Ok None → IsNoQuestion text → IfOk result (λ question. IsReadAs text question)
found_none {E} text result is h = subst (λ (r : Result (Option Question) E). IfOk r (λ question. IsReadAs text question)) (sym is) h

pub no_memory : {E : Type 0} (text : List ℕ) (result : Result (Option Question) E) (error : E) → result ≡ Err error → IfOk result (λ question. IsReadAs text question)
no_memory {E} text result error is = subst (λ (r : Result (Option Question) E). IfOk r (λ question. IsReadAs text question)) (sym is) tt

pub is_plan : (text own : List ℕ) (question : Question) → text ≡ own → Prepares text (Ok question) → IsPlanOf own (plan_of question)
is_plan text own question e h = subst (λ t. IsPlanOf t (plan_of question)) e h

-- what is known of a clause whose question was read, or was refused
pub read_some : (text own : List ℕ) (read : Option Question) (question : Question) → text ≡ own → read ≡ Some question → IsReadAs text read → IsPlanOf own (plan_of question)
read_some text own read question e is h =
    let k : IsReadAs text (Some question) = subst (IsReadAs text) is h in
    subst (λ t. IsPlanOf t (plan_of question)) e k

pub read_none : (text own : List ℕ) (read : Option Question) → text ≡ own → read ≡ None → IsReadAs text read → IsNoQuestion own
read_none text own read e is h =
    let k : IsReadAs text None = subst (IsReadAs text) is h in
    subst IsNoQuestion e k
