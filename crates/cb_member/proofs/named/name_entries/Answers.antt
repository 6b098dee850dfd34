use Rattle.std.proofs.Common.{◌∙◌, ◌∷◌, [], refl, sym}
use Rattle.cb_member.specs.Asked.{joins_twice}
use Rattle.cb_member.specs.Received.{names_of}
use Rattle.cb_member.proofs.Naming.{first_at, last_at, last_open, none_named, none_open, one_at, one_named, one_open, two_named, two_open}
use Rattle.cb_member.proofs.named.name_entries.Goals as goal

pub returns-then-not-joins_entries : goal.returns-then-not-joins_entries
returns-then-not-joins_entries c bytes started h =
    let none = sym c.joins_entries.ensures ∙ c.if-not-joins_entries.true in
    none_named c.args.asked bytes (names_of c.args.delivered.now) started c.args.entries.now.items none (none_open c.args.asked bytes _ started c.args.entries.now.items h none)

pub name_entry-requires : goal.name_entry-requires
name_entry-requires c =
    last_open (joins_twice c.args.asked) c.args.asked c.requires.0 _ c.requires.1 c.args.entries.now.items c.len-last.result refl c.requires.2 (sym c.joins_entries.ensures ∙ c.if-not-joins_entries.false)
    (c.len-last.ensures ∙ c.args.entries.now.ok.0)

pub name_entry-requires-then-joins_twice : goal.name_entry-requires-then-joins_twice
name_entry-requires-then-joins_twice c =
    let bytes = c.requires.0 in
    let started = c.requires.1 in
    let entries = c.args.entries.now.items in
    let many = c.len-last.ensures ∙ c.args.entries.now.ok.0 in
    let o = two_open c.args.asked bytes _ started entries c.requires.2 (sym c.joins_twice.ensures ∙ c.if-joins_twice.true) in
    let n = c.name_entry.ensures bytes _ _ o.last (last_at bytes _ started entries c.len-last.result many o) in
    (bytes, started, n.named ∷ [], o.first, first_at bytes _ started entries c.len-last.result many o _ c.name_entry.new.entries.items n)

pub returns-then-joins_twice : goal.returns-then-joins_twice
returns-then-joins_twice c bytes started h =
    let entries = c.args.entries.now.items in
    let many = c.len-last.ensures ∙ c.args.entries.now.ok.0 in
    let twice = sym c.joins_twice.ensures ∙ c.if-joins_twice.true in
    let o = two_open c.args.asked bytes _ started entries h twice in
    let n = c.name_entry.ensures bytes _ _ o.last (last_at bytes _ started entries c.len-last.result many o) in
    let m = c.name_entry-then-joins_twice.ensures bytes started _ o.first (first_at bytes _ started entries c.len-last.result many o _ c.name_entry.new.entries.items n) in
    two_named c.args.asked bytes (names_of c.args.delivered.now) started _ n.named twice n.fields m

pub returns-else-joins_twice : goal.returns-else-joins_twice
returns-else-joins_twice c bytes started h =
    let entries = c.args.entries.now.items in
    let many = c.len-last.ensures ∙ c.args.entries.now.ok.0 in
    let joins = sym c.joins_entries.ensures ∙ c.if-not-joins_entries.false in
    let once = sym c.joins_twice.ensures ∙ c.if-joins_twice.false in
    let o = one_open c.args.asked bytes _ started entries h joins once in
    one_named c.args.asked bytes (names_of c.args.delivered.now) started _ joins once (c.name_entry.ensures bytes started _ o.entry (one_at bytes _ started entries c.len-last.result many o))
