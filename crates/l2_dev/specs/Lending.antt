-- What a started cache device ends as, where the device below it is lent.
use Rattle.std.specs.Borrow.{Lends, MutBor, Fml, RattleType}
use Rattle.l2_dev.specs.declared.device.L2Dev.{L2Dev}
use Rattle.l2_dev.specs.contracts.device.L2Dev.{the_row}

-- it ends with the device that was left behind r
abbrev pub LendsDevice : (R : RattleType) → MutBor (L2Dev R.Denot) → MutBor R.Denot → Fml
LendsDevice R l2 r = Lends (the_row R) R l2 r (λ dev. record { dev = dev; cursor = l2.now.cursor; alloc = l2.now.alloc })
