-- The two comparisons of the code are the two of the definition: a signed number is read back from its bits as it was. Assumes nothing.
use lib.ListN.{get_or}
use mir.Syntax.{w16}
use mir.Val.{SFits}
use Rattle.record_kinds.specs.Kinds.{no_bounds, bounds_table}
use Rattle.record_kinds.proofs.Signs.{zero_allowed, through, signed_is, signed_through, allowed_is}
use borrow.Author.Rules.{rules}
use Rattle.record_kinds.proofs.allowed.Goals as goal
use Rattle.record_kinds.proofs.allowed.Goals.{After-cast_signed-v}

-- a bound fits into 16 bits
fits_least : (c : After-cast_signed-v) → SFits w16 (get_or bounds_table c.args.kind no_bounds).0
fits_least c = search rules

fits_greatest : (c : After-cast_signed-v) → SFits w16 (get_or bounds_table c.args.kind no_bounds).1
fits_greatest c = search rules

-- the value is 0
pub returns-then-value-eq0 : goal.returns-then-value-eq0
returns-then-value-eq0 c = zero_allowed _ _ c.requires c.if-value-eq0.true

-- any other value
pub returns : goal.returns
returns c =
    let at = (goal.at.returns c).After-cast_signed-v in
    let h = c.ranges.value.fits in
    rw (c.cast_signed-v.ensures, signed_is _ h, signed_through _ h, c.from.ensures, through _ (fits_least at), through _ (fits_greatest at))
    (allowed_is c.args.kind c.args.value)
