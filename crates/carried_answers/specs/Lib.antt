pub mod CarriedRequests
