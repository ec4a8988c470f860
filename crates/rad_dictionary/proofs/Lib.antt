pub mod Ipv6Lemmas
