-- Where the members of a group are.
use Rattle.std.specs.Prelude.{◌≡◌, ◌≢◌, ℕ, ◌+◌, ◌<◌, ◌≤◌, Bool, ◌==◌, if◌then◌else◌, List, [], ◌∷◌, length, slice_index_or, Option, Some, None, All, Contains}
use Rattle.std.specs.Net.Addr.{is_ipv4}
use Rattle.std.specs.Net.Socket.{socket_ip, socket_port}
use Rattle.std.specs.declared.net.socket_addr.SocketAddr.{SocketAddr}
use Rattle.cb_peers.specs.declared.make_fault.MakeFault.{MakeFault}
use Rattle.cb_peers.specs.declared.make_fault.MakeFault.TheVariants as faults
use Rattle.cb_peers.specs.declared.peers.Peers.{Peers}

-- a group of this size has a member of this number
abbrev pub IsPlace : ℕ → ℕ → Type 0
IsPlace size me = (2 ≤ size) × (size ≤ 64) × (me < size)

-- no two are alike
abbrev pub AreDistinct : List SocketAddr → Type 0
AreDistinct [] = Unit {0}
AreDistinct (a ∷ rest) = ¬ (Contains rest a) × AreDistinct rest

-- a socket of the family, IPv4 or IPv6, can send there
abbrev pub IsReached : Bool → SocketAddr → Type 0
IsReached family a = (socket_port a ≢ 0) × (is_ipv4 (socket_ip a) ≡ family)

-- one address for each member, no two alike, and each can be reached from each
abbrev pub AreAddresses : ℕ → List SocketAddr → Type 0
AreAddresses size all = (length all ≡ size) × AreDistinct all × ((family : Bool) × All (IsReached family) all)

-- the addresses of the others at their numbers, from number n on, and none at one's own
abbrev pub others_from : ℕ → ℕ → List SocketAddr → List (Option SocketAddr)
others_from me n [] = []
others_from me n (a ∷ rest) = (if n == me then None else Some a) ∷ others_from me (n + 1) rest

-- a member knows its own number and address, and those of the others
pub record AreOf (number : ℕ) (addresses : List SocketAddr) (peers : Peers) : Type 0 where
  pub me : peers.me ≡ number
  pub own : slice_index_or addresses number peers.own ≡ peers.own
  pub others : peers.others.items ≡ others_from number 0 addresses

-- why there are none
abbrev pub NotPlaced : ℕ → ℕ → List SocketAddr → MakeFault → Type 0
NotPlaced size me all faults.BadMember = ¬ (IsPlace size me)
NotPlaced size me all faults.BadAddresses = IsPlace size me × ¬ (AreAddresses size all)
NotPlaced size me all faults.NoMemory = Unit {0}
NotPlaced size me all _ = ⊥
