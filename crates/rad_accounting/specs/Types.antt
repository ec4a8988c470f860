-- The Types of attributes of an Accounting-Request that only a record has, each with the section that defines it.
use Rattle.std.specs.Prelude.{ℕ}

-- NAS-IP-Address (RFC 2865, section 5.4)
abbrev pub type_nas_ip_address : ℕ
type_nas_ip_address = 4

-- NAS-Port (RFC 2865, section 5.5)
abbrev pub type_nas_port : ℕ
type_nas_port = 5

-- Called-Station-Id (RFC 2865, section 5.30)
abbrev pub type_called_station_id : ℕ
type_called_station_id = 30

-- Calling-Station-Id (RFC 2865, section 5.31)
abbrev pub type_calling_station_id : ℕ
type_calling_station_id = 31

-- NAS-Identifier (RFC 2865, section 5.32)
abbrev pub type_nas_identifier : ℕ
type_nas_identifier = 32

-- Acct-Delay-Time (RFC 2866, section 5.2)
abbrev pub type_acct_delay_time : ℕ
type_acct_delay_time = 41

-- Acct-Input-Octets (RFC 2866, section 5.3)
abbrev pub type_acct_input_octets : ℕ
type_acct_input_octets = 42

-- Acct-Output-Octets (RFC 2866, section 5.4)
abbrev pub type_acct_output_octets : ℕ
type_acct_output_octets = 43

-- Acct-Session-Id (RFC 2866, section 5.5)
abbrev pub type_acct_session_id : ℕ
type_acct_session_id = 44

-- Acct-Session-Time (RFC 2866, section 5.7)
abbrev pub type_acct_session_time : ℕ
type_acct_session_time = 46

-- Acct-Input-Packets (RFC 2866, section 5.8)
abbrev pub type_acct_input_packets : ℕ
type_acct_input_packets = 47

-- Acct-Output-Packets (RFC 2866, section 5.9)
abbrev pub type_acct_output_packets : ℕ
type_acct_output_packets = 48

-- Acct-Terminate-Cause (RFC 2866, section 5.10)
abbrev pub type_acct_terminate_cause : ℕ
type_acct_terminate_cause = 49

-- Acct-Multi-Session-Id (RFC 2866, section 5.11)
abbrev pub type_acct_multi_session_id : ℕ
type_acct_multi_session_id = 50

-- Acct-Input-Gigawords (RFC 2869, section 5.1)
abbrev pub type_acct_input_gigawords : ℕ
type_acct_input_gigawords = 52

-- Acct-Output-Gigawords (RFC 2869, section 5.2)
abbrev pub type_acct_output_gigawords : ℕ
type_acct_output_gigawords = 53

-- NAS-Port-Id (RFC 2869, section 5.17)
abbrev pub type_nas_port_id : ℕ
type_nas_port_id = 87
