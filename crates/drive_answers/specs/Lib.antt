pub mod DrivenRequests
