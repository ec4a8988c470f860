use Rattle.rad_md5.proofs.LaneLemmas.{below_eight}
use Rattle.rad_md5.proofs.digest.digests_in.Goals as goal

pub returns-clause-made : goal.returns-clause-made
returns-clause-made c =
    below_eight _ c.digest_octets.ensures c.digest_octets-2.ensures c.digest_octets-3.ensures c.digest_octets-4.ensures
    c.digest_octets-5.ensures c.digest_octets-6.ensures c.digest_octets-7.ensures c.digest_octets-8.ensures
