use Rattle.std.proofs.Common.{◌++◌, ap, ◌∙◌}
use Rattle.std.proofs.lemmas.Result.{on_ok_weaker}
use Rattle.office_text.proofs.MadeLemmas.{digest_is, site_written}
use Rattle.office_text.proofs.made.add_site.Goals as goal

pub returns : goal.returns
returns c =
    let body = c.in_ok-extend.ensures.ok ∙ ap (λ l. c.args.out.now ++ l) c.site_text-body.ensures in
    on_ok_weaker c.push.result
    (λ h. site_written c.args.out.now c.extend.new.self c.extend-2.new.self c.write_digest.new.out c.push.new.self c.digest.result body c.in_ok-extend-2.ensures.ok c.in_ok-write_digest.ensures.ok h
    (digest_is c.site_text-body.result.now c.digest.result c.site_text-body.ensures c.digest.ensures))
    c.push.ensures.ok
