-- What comes over UDP from a known address, and what from a stranger.
use Rattle.std.specs.Prelude.{◌≡◌, ℕ, ◌+◌, List, Option, Some, None, Result, Ok, Err}
use Rattle.std.specs.List.{Contains}
use Rattle.std.specs.declared.net.socket_addr.SocketAddr.{SocketAddr}
use Rattle.cb_peers.specs.declared.peers.Peers.{Peers}
use Rattle.cb_links.specs.declared.link.LinkFault.{LinkFault}
use Rattle.cb_links.specs.declared.link.LinkFault.TheVariants as faults
use Rattle.cb_links.specs.Counts.{held}

-- another member has this address
abbrev pub IsOther : Peers → SocketAddr → Type 0
IsOther peers address = Contains peers.others.items (Some address)

-- A datagram of another member is a frame, as it came. A stranger's is dropped and counted.
abbrev pub Hears : Peers → ℕ → ℕ → SocketAddr → List ℕ → Result (Option (List ℕ)) LinkFault → Type 0
Hears peers before after from datagram (Ok (Some frame)) = IsOther peers from × (frame ≡ datagram) × (after ≡ before)
Hears peers before after from datagram (Ok None) = ¬ (IsOther peers from) × (after ≡ held (before + 1))
Hears peers before after from datagram (Err fault) = (fault ≡ faults.NoMemory) × IsOther peers from × (after ≡ before)
