-- No sum wraps where the contract speaks of it, and or-ing loses no bit.
use Rattle.std.proofs.Common.{refl}
use Rattle.metrics.proofs.LaneLaws.{or_0, or_1, or_2, more, more_t}
use Rattle.metrics.proofs.lanes.add_pair.Goals as goal

pub returns : goal.returns
returns c =
    let a = c.args in
    record {
      grows = or_0 a.s.most a.p a.q;
      holds_p = or_1 a.s.most a.p a.q;
      holds_q = or_2 a.s.most a.p a.q;
      more_d = λ h g. more_t a.minkfreq a.p a.q _ _ _ _ refl c.kept.ensures refl h g;
      more_n = λ h g. more a.minkfreq a.p a.q _ a.z _ _ _ refl c.kept-2.ensures refl h g;
    }
