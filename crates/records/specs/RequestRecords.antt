-- The layout of requests.
use Rattle.std.specs.Prelude.{ℕ, cond, List, [], ◌∷◌, ◌++◌, Err, ◌==◌}
use Rattle.std.specs.Int.{w32}
use Rattle.std.proofs.Common.{to_z, of_z}
use Rattle.records.specs.Layout.{big_endian, bytes, unknown_kind, cut_short, Reading, whole}
use Rattle.records.specs.declared.request.Request.{Request}
use Rattle.records.specs.declared.request.Request.TheVariants.{Begin, Read, Write, Commit, Abort, Retry}

-- the request that begins with the kind k
abbrev pub request_of : ℕ → List ℕ → Reading Request
request_of k bs =
    cond (k == 1) (whole 1 Begin bs)
    (cond (k == 2) (whole 5 (Read (big_endian 2 bs 1) (big_endian 2 bs 3)) bs)
    (cond (k == 3) (whole 9 (Write (big_endian 2 bs 1) (big_endian 2 bs 3) (to_z w32 (big_endian 4 bs 5))) bs)
    (cond (k == 4) (whole 3 (Commit (big_endian 2 bs 1)) bs)
    (cond (k == 5) (whole 3 (Abort (big_endian 2 bs 1)) bs)
    (cond (k == 6) (whole 3 (Retry (big_endian 2 bs 1)) bs)
    (Err unknown_kind))))))

abbrev pub read_request : List ℕ → Reading Request
read_request [] = Err cut_short
read_request (k ∷ bs) = request_of k (k ∷ bs)

abbrev pub request_bytes : Request → List ℕ
request_bytes Begin = 1 ∷ []
request_bytes (Read t item) = 2 ∷ (bytes 2 t ++ bytes 2 item)
request_bytes (Write t item value) = 3 ∷ (bytes 2 t ++ (bytes 2 item ++ bytes 4 (of_z w32 value)))
request_bytes (Commit t) = 4 ∷ bytes 2 t
request_bytes (Abort t) = 5 ∷ bytes 2 t
request_bytes (Retry t) = 6 ∷ bytes 2 t
