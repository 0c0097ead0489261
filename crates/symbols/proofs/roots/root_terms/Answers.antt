use Rattle.std.proofs.Common.{◌≡◌, arith}
use Rattle.records.specs.Bytes.{le_at}
use Rattle.records.proofs.ByteLaws.{byte_is}
use Rattle.symbols.specs.Roots.{terms_of}
use Rattle.symbols.proofs.roots.root_terms.Goals as goal

pub returns : goal.returns
unfolding terms_of le_at
returns c =
    let e = c.args.root.now in
    let s : c.from_le_bytes.result ≡ le_at e 8 2 = omega (arith, c.from_le_bytes.ensures) in
    let u : c.from_le_bytes-2.result ≡ le_at e 12 4 = omega (arith, c.from_le_bytes-2.ensures) in
    rw (s, u, byte_is e 6, byte_is e 7, byte_is e 10)
