use Rattle.operations.proofs.Asking.{sends_fit, regions_here}
use Rattle.operations.proofs.places.load_at.Goals as goal

pub read-image-requires : goal.read-image-requires
read-image-requires c = (regions_here _ _ _ c.word-count.ensures c.requires.regions_indexed, c.bytes_of-bytes.ensures.1)

pub load_number-found-requires : goal.load_number-found-requires
load_number-found-requires c = record { fit = sends_fit _ _ _ _ _ _ c.ask_read.ensures c.word-stored.ensures c.requires.fit; bytes_bound = c.bytes_of-bytes.ensures.1 }
