use Rattle.std.proofs.Common.{◌≡◌, ◌++◌, ◌∷◌, [], IsTrue, refl, sym, ap, ◌∙◌, subst}
use Rattle.desk_keep.specs.Tables.{AreRows}
use Rattle.desk_keep.specs.Inside.{IsAboveLast}
use Rattle.desk_keep.proofs.Following.{AreRows-push, pushed_above, pushed_fits}
use Rattle.desk_keep.proofs.changes.Changes.push_next.Goals as goal
use Rattle.desk_keep.proofs.changes.Changes.push_next.Goals.{then-not-fits-via-then-not-fits, then-not-fits-via-else-not-fits+then-not-may_follow}

pub returns-then-not-fits-clause-ok : goal.returns-then-not-fits-clause-ok
returns-then-not-fits-clause-ok c = (
  refl,
  λ are. elim c.then-not-fits.branch as (λ _. ⊥) [
    | then-not-fits-via-then-not-fits w ↦
        let fits : IsTrue c.fits.result = c.fits.ensures.1 (pushed_fits c.args.self.now c.args.row are) in
        cc (fits, w.if-not-fits.true)
    | then-not-fits-via-else-not-fits+then-not-may_follow w ↦
        let above = subst (λ rows. IsAboveLast rows c.args.row) (sym w.as_slice.ensures) (pushed_above c.args.self.now c.args.row are) in
        let follows : IsTrue w.may_follow.result = w.may_follow.ensures.1 above in
        cc (follows, w.if-not-may_follow.true)
  ],
)

pub returns-clause-ok : goal.returns-clause-ok
returns-clause-ok c =
    let rows = c.args.self.now in
    let row = c.args.row in
    let pushed : c.push.new.self.items ≡ rows ++ row ∷ [] = c.in_ok-push.ensures.items ∙ ap (λ l. l ++ row ∷ []) c.self.view_is in
    let fits : IsTrue c.fits.result = cc in
    let follows : IsTrue c.may_follow.result = cc in
    let above = subst (λ l. IsAboveLast l row) c.as_slice.ensures (c.may_follow.ensures.0 follows) in
    (pushed, λ are. subst AreRows (sym pushed) (AreRows-push rows row (c.fits.ensures.0 fits) above are))
