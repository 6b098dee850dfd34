-- Addresses of members, one after another.
use Rattle.std.proofs.Common.{◌≡◌, ℕ, ◌+◌, ◌==◌, if◌then◌else◌, List, [], ◌∷◌, ◌++◌, drop, append_assoc, Option, Some, None, sym, ap, ◌∙◌}
use Rattle.std.specs.declared.net.socket_addr.SocketAddr.{SocketAddr}
use Rattle.cb_peers.specs.Placing.{others_from}

-- the address of one more member is known
pub others_more : (me i : ℕ) (all : List SocketAddr) (a : SocketAddr) (done more whole : List (Option SocketAddr)) → drop i all ≡ a ∷ drop (i + 1) all → done ++ others_from me i (drop i all) ≡ whole → more ≡ done ++ (if i == me then None else Some a) ∷ []
    → more ++ others_from me (i + 1) (drop (i + 1) all) ≡ whole
others_more me i all a done more whole at so_far added =
    let later = others_from me (i + 1) (drop (i + 1) all) in
    let o : Option SocketAddr = if i == me then None else Some a in
    ap (λ (x : List (Option SocketAddr)). x ++ later) added ∙ append_assoc done (o ∷ []) later ∙ ap (λ (x : List (Option SocketAddr)). done ++ x) (sym (ap (others_from me i) at)) ∙ so_far
