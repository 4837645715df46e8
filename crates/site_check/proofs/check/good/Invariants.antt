use Rattle.std.proofs.Common.{◌≡◌, ◌≤◌, count_by, take}
use Rattle.site_check.specs.Findings.{is_baseline, is_fixlet}
use Rattle.site_check.proofs.check.good.Given as goal

abbrev pub invariant-loop-block : goal.invariant-loop-block
invariant-loop-block l = record {
  fixlets : l.fixlets ≡ count_by is_fixlet (take l.block-index l.blocks);
  baselines : l.baselines ≡ count_by is_baseline (take l.block-index l.blocks);
  few : l.fixlets ≤ l.block-index;
  few_baselines : l.baselines ≤ l.block-index;
}
