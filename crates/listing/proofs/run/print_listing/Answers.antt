use Rattle.listing.proofs.Ready.{taken_long, taken_inside}
use Rattle.listing.proofs.run.print_listing.Goals as goal

pub slice_bounds-listing-end : goal.slice_bounds-listing-end
slice_bounds-listing-end g c = taken_inside c.run-answer.ensures c.if-answer-ne0.false

pub slice_bounds-listing-end-2 : goal.slice_bounds-listing-end-2
slice_bounds-listing-end-2 g c = taken_long c.run-answer.ensures c.if-answer-ne0.false
