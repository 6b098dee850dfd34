-- A frame is offered to the members at the ends of connections.
use Rattle.std.specs.Prelude.{◌≡◌, ℕ, List, Option, Some, None, Result, Ok, Err}
use Rattle.std.specs.declared.net.socket_addr.SocketAddr.{SocketAddr}
use Rattle.cb_links.specs.declared.link.LinkFault.{LinkFault}
use Rattle.cb_links.specs.declared.link.LinkFault.TheVariants as faults
use Rattle.cb_links.specs.declared.link.Offered.{Offered}
use Rattle.cb_links.specs.Offers.{outcome_of}
use Rattle.cb_links.specs.Streams.{Sends}
use Rattle.cb_remote.specs.declared.ends.End.{End}
use Rattle.cb_remote.specs.declared.ends.End.TheVariants as ends

-- at first there is no connection with any of the others
abbrev pub end_of : Option SocketAddr → End
end_of None = ends.Own
end_of (Some address) = ends.Down

-- To the member itself none goes. It could not be sent where there is no connection; else it was offered to that.
abbrev pub IsOffered : End → End → List ℕ → Offered → Type 0
IsOffered ends.Own new frame outcome = (new ≡ ends.Own) × (outcome ≡ outcome_of (Ok tt))
IsOffered ends.Down new frame outcome = (new ≡ ends.Down) × (outcome ≡ outcome_of (Err faults.Device))
IsOffered (ends.Up going) (ends.Up gone) frame outcome = (answer : Result Unit LinkFault) × Sends None None going.rest.items gone.rest.items frame answer × (outcome ≡ outcome_of answer)
IsOffered (ends.Up going) new frame outcome = ⊥
