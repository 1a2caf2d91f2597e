-- What holds of the receiving half of every connection.
use Rattle.tcp_state.specs.View.{View, IsSound}
use Rattle.tcp_halves.proofs.Keeping.{IsKeeping}

pub sound_keeping : (v : View) → IsSound v → IsKeeping v.receiving
sound_keeping v sound = record { small = sound.rnext; sized = sound.terms.places; most = sound.terms.capacity; fits = sound.window; buffer = sound.buffer; kept = sound.kept; some = sound.terms.unit_some; few = sound.terms.unit_few; told = sound.terms.receive_size }
