-- What a source and a sink are for a run, and all that was handed in.
use Rattle.std.specs.Prelude.{Option}
use Rattle.vdev_io.specs.declared.sink.Sink.{Ghosts as SinkGhosts}
use Rattle.vdev_io.specs.declared.source.Source.{Ghosts as SourceGhosts}
use Rattle.vdev_io.specs.Streams.{StreamState, sink_state, source_state}

-- a source, a sink, a pool and a cache device, or none, at one moment
pub record Handed (P D : Type 0) : Type 0 where
  pub source : StreamState
  pub sink : StreamState
  pub pool : P
  pub cache : Option D

abbrev pub handed : {S K P D : Type 0} → SourceGhosts S → SinkGhosts K → S → K → P → Option D → Handed P D
handed sources sinks source sink pool cache = record { source = source_state sources source; sink = sink_state sinks sink; pool = pool; cache = cache }
