use Rattle.l2_feed.proofs.Between.{places_go}
use Rattle.l2_feed.proofs.series.places_go_between_feeds.Goals as goal

pub returns : goal.returns
returns c = places_go
