use Rattle.std.proofs.Common.{◌≡◌, ◌<◌, ◌++◌, ◌∷◌, [], List, length, get_or, take, sym, ap, ◌∙◌, subst, arith, All, IfSome}
use Rattle.std.proofs.lemmas.List.Elements.{All-take}
use Rattle.desk_keep.specs.declared.change.Change.{Change}
use Rattle.desk_keep.specs.Keys.{key_of}
use Rattle.desk_keep.specs.Forms.{Fits}
use Rattle.desk_keep.specs.Tables.{put, put_all, row_at}
use Rattle.desk_keep.specs.Inside.{WerePut}
use Rattle.desk_keep.proofs.Putting.{AreRows-put_all}
use Rattle.desk_keep.proofs.Undoing.{steps_back}
use Rattle.desk_keep.proofs.batch.take_all_back.Goals as goal

pub loop-stood-preserved : goal.loop-stood-preserved
loop-stood-preserved c =
    let batch = c.args.batch.now in
    let before = c.pop.new.self.items in
    let row = c.index-batch-len.result in
    let rows : List Change → List Change = λ start. put_all (take (length before) batch) start in
    let split : c.loop-stood.before.items ≡ before ++ c.in-Some.stood ∷ [] = c.in-Some.ensures.items in
    let count : c.len.result ≡ length before = omega (arith, c.pop.new.self.ok.0) in
    let inside : length before < length batch = omega (arith, c.pop.new.self.ok.0, c.in-Some.ensures.len) in
    let is : row ≡ get_or batch (length before) row = c.index-batch-len.is ∙ ap (λ n. get_or batch n row) count in
    record {
      few = omega (arith, c.in-Some.ensures.len);
      fits = subst (All (λ stood. IfSome stood Fits)) (sym c.in-Some.ensures.rest) (All-take (λ stood. IfSome stood Fits) _ c.loop-stood.before.items c.loop-stood.invariant.fits);
      put = λ start are were.
          let back = steps_back batch before c.in-Some.stood row start c.loop-stood.rows inside (subst (λ l. WerePut batch l start c.loop-stood.rows) split (c.loop-stood.invariant.put start are were)) in (
            back.rest,
            c.take_back.ensures (rows start) (AreRows-put_all (take (length before) batch) start (All-take Fits (length before) batch c.requires.fits) are)
                (back.put ∙ ap (λ r. put r (rows start)) (sym is)) (back.found ∙ ap (λ r. row_at (key_of r) (rows start)) (sym is)),
          );
    }
